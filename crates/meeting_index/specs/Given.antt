-- The text of the version in which something is provided, which may be none.
use Rattle.std.specs.Prelude.{ℕ, Bool, true, List, [], ◌∷◌, Option, Some, None}
use Rattle.deb_version.specs.Versions.{Parts, is_version, parts}

-- no text, or a version's
abbrev pub is_given : List ℕ → Bool
is_given [] = true
is_given (byte ∷ bytes) = is_version (byte ∷ bytes)

abbrev pub given_parts : List ℕ → Option Parts
given_parts [] = None
given_parts (byte ∷ bytes) = Some (parts (byte ∷ bytes))
