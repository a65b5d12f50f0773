-- What is read of lines, one line further.
use Rattle.std.proofs.Common.{◌≡◌, List, ◌∷◌, ◌++◌, Option, Some, None, refl, sym, ap, ◌∙◌, append_assoc}
use Rattle.std.specs.Option.{option_or, option_to_list}
use Rattle.std.specs.List.{cons_option}
use Rattle.control_file.specs.Text.{Line}
use Rattle.hint_effects.specs.declared.Hint.{Hint}
use Rattle.universe_model.specs.Universes.{Universe}
use Rattle.hint_file.specs.Hinting.{first_fault, hints_of, hint_at, fault_at}

-- a line without fault leaves the first fault to those behind it
pub faultless-next : (u : Universe) (line : Line) (rest : List Line) → fault_at u line ≡ None → first_fault u rest ≡ first_fault u (line ∷ rest)
faultless-next u line rest none = sym (ap (λ o. option_or o (first_fault u rest)) none)

onto : (o : Option Hint) (hints : List Hint) → option_to_list o ++ hints ≡ cons_option o hints
onto None hints = refl
onto (Some hint) hints = refl

pub hints-next : (u : Universe) (line : Line) (rest : List Line) (hints : List Hint)
    → (hints ++ option_to_list (hint_at u line)) ++ hints_of u rest ≡ hints ++ hints_of u (line ∷ rest)
hints-next u line rest hints =
    append_assoc hints (option_to_list (hint_at u line)) (hints_of u rest) ∙ ap (λ more. hints ++ more) (onto (hint_at u line) (hints_of u rest))
