-- The words behind the first one, if they are one or three; else none are kept.
use Rattle.std.specs.Prelude.{ℕ, List, [], ◌∷◌}
use Rattle.hint_lines.specs.declared.rest_words.RestWords.{RestWords}
use Rattle.hint_lines.specs.declared.rest_words.RestWords.TheVariants.{One, Three, Other}

abbrev pub words_view : RestWords → List (List ℕ)
words_view (One target) = target.now ∷ []
words_view (Three number name target) = number.now ∷ name.now ∷ target.now ∷ []
words_view Other = []

abbrev pub counted : List (List ℕ) → List (List ℕ)
counted (target ∷ []) = target ∷ []
counted (number ∷ name ∷ target ∷ []) = number ∷ name ∷ target ∷ []
counted _ = []
