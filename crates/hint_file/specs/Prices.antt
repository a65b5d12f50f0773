-- The amounts of choices at the levels of a cost spec.
use Rattle.std.specs.Prelude.{ℕ, ◌+◌, ◌*◌, Bool, List, map, nat_lt, if◌then◌else◌}
use Rattle.std.specs.List.{list_any, sum_by}
use Rattle.cost_vector.specs.declared.cost_spec.Level.{Level}
use Rattle.cost_vector.specs.declared.cost_spec.Term.{Term}
use Rattle.hint_effects.specs.Effects.{added}
use Rattle.hint_effects.specs.declared.Hint.{Hint}
use Rattle.lists.specs.Below.{below}
use Rattle.resolver_model.specs.Costs as model
use Rattle.resolver_model.specs.Problems.{Problem, is_choice, version_count, dependency_count}
use Rattle.hint_file.specs.CostNames.{Scene, cost_kind, counts}

-- what a choice has at a cost name: 1 where it is of the kind that the name says, and what hints add
abbrev pub name_amount : Scene → List Hint → List ℕ → ℕ → ℕ
name_amount s hints name c = (if counts s (cost_kind name) c then 1 else 0) + added s.problem hints name c

-- what a term gives: so many times the amount at its name
abbrev pub term_amount : Scene → List Hint → ℕ → Term → ℕ
term_amount s hints c term = term.times * name_amount s hints term.name c

-- what a level has for a choice: what its terms give
abbrev pub level_amount : Scene → List Hint → List Term → ℕ → ℕ
level_amount s hints terms c = sum_by (term_amount s hints c) terms

-- a number that is no choice has 0
abbrev pub amount_of : Scene → List Hint → List Term → ℕ → ℕ
amount_of s hints terms c = if is_choice s.problem c then level_amount s hints terms c else 0

abbrev pub choice_numbers : Problem → ℕ
choice_numbers p = version_count p + dependency_count p

-- the amounts of a level, one for each choice number
abbrev pub row_of : Scene → List Hint → List Term → List ℕ
row_of s hints terms = map (amount_of s hints terms) (below (choice_numbers s.problem))

abbrev pub level_priced : Scene → List Hint → Level → model.Level
level_priced s hints level = record { greatest = level.greatest; amounts = row_of s hints level.terms }

abbrev pub table_of : Scene → List Hint → List Level → model.Table
table_of s hints levels = record { choices = choice_numbers s.problem; levels = map (level_priced s hints) levels }

-- the most that a choice may have at a level
abbrev pub most_amount : ℕ
most_amount = 4294967295

-- whether some choice has more at a level
abbrev pub is_row_past : Scene → List Hint → List Term → Bool
is_row_past s hints terms = list_any (λ amount. nat_lt most_amount amount) (row_of s hints terms)

abbrev pub is_past : Scene → List Hint → List Level → Bool
is_past s hints levels = list_any (λ (level : Level). is_row_past s hints level.terms) levels
