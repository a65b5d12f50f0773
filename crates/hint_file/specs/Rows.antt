-- Rows of a table in the making.
use Rattle.std.specs.Prelude.{◌≡◌, ◌<◌, ℕ, List, ◌++◌, map, length, take, drop, replicate, slice_index, slice_index_or, slice_set}
use Rattle.cost_vector.specs.declared.cost_spec.Level.{Level}
use Rattle.cost_vector.specs.declared.cost_spec.Term.{Term}
use Rattle.hint_effects.specs.Sums.{capped}
use Rattle.hint_effects.specs.declared.Hint.{Hint}
use Rattle.problem.specs.declared.limits.Which.TheVariants.{LevelAmount}
use Rattle.resolver_model.specs.Costs as model
use Rattle.resolver_model.specs.Costs.{Table, no_level}
use Rattle.hint_file.specs.CostNames.{Scene}
use Rattle.hint_file.specs.Prices.{amount_of, choice_numbers, level_priced}
use Rattle.hint_file.specs.declared.ends.PriceEnd.{PriceEnd}
use Rattle.hint_file.specs.declared.ends.PriceEnd.TheVariants.{Limit}

-- the end where a choice has too much at a level
abbrev pub past_end : PriceEnd
past_end = Limit LevelAmount 4294967296

-- the amounts of a level by its first terms, none beyond one past the most
pub record IsRow (s : Scene) (hints : List Hint) (terms : List Term) (row : List ℕ) : Type 0 where
  pub size : length row ≡ choice_numbers s.problem
  pub each : (c : ℕ) → c < choice_numbers s.problem → slice_index row c ≡ capped (amount_of s hints terms c)

-- the table with these amounts at a level
abbrev pub with_row : Table → ℕ → List ℕ → Table
with_row table place amounts = record {
  choices = table.choices;
  levels = slice_set table.levels place (record { greatest = (slice_index_or table.levels place no_level).greatest; amounts = amounts });
}

-- a level whose amounts are 0
abbrev pub level_unpriced : ℕ → Level → model.Level
level_unpriced n level = record { greatest = level.greatest; amounts = replicate n 0 }

-- the first levels have their amounts, the others have 0
abbrev pub table_upto : Scene → List Hint → ℕ → List Level → Table
table_upto s hints k levels = record {
  choices = choice_numbers s.problem;
  levels = map (level_priced s hints) (take k levels) ++ map (level_unpriced (choice_numbers s.problem)) (drop k levels);
}
