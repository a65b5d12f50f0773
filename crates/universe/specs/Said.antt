-- What a token that is read says, and what stays of a text that is appended to.
use Rattle.std.specs.Prelude.{◌≡◌, ℕ, List, length, take}
use Rattle.universe_model.specs.Tokens.{Token, Removal, Release, Group}
use Rattle.universe.specs.declared.tokens.Said.{Said}
use Rattle.universe.specs.declared.tokens.Said.TheVariants as said

abbrev pub token_said : Said → Token
token_said (said.Removal name) = Removal name.now
token_said (said.Release name version) = Release name.now version.text.now
token_said (said.Group name version place) = Group name.now version.text.now place

-- the first bytes stayed
abbrev pub IsKept : List ℕ → List ℕ → Type 0
IsKept old new = take (length old) new ≡ old
