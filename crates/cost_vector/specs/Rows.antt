-- How a table keeps its amounts: in one list, level after level.
use Rattle.std.specs.Prelude.{◌≡◌, ◌<◌, ℕ, ◌*◌, ◌^◌, Bool, List, [], ◌∷◌, length, take, drop}
use Rattle.resolver_model.specs.Costs.{Level}

-- the levels of these kinds, each with the next amounts, one for each choice
abbrev pub levels_of : ℕ → List Bool → List ℕ → List Level
levels_of choices [] amounts = []
levels_of choices (kind ∷ kinds) amounts =
    record { greatest = kind; amounts = take choices amounts } ∷ levels_of choices kinds (drop choices amounts)

-- there are as many amounts as choices in all levels
pub record IsWhole (choices : ℕ) (kinds : List Bool) (amounts : List ℕ) : Type 0 where
  pub few : choices < 2 ^ 32
  pub whole : length amounts ≡ length kinds * choices
