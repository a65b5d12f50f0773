-- The cost of a set when one more choice comes in.
use Rattle.std.specs.Prelude.{ℕ, ◌+◌, ◌^◌, max, List, [], ◌∷◌, map, Bool, nat_lt, if◌then◌else◌}
use Rattle.std.specs.List.{list_all}
use Rattle.resolver_model.specs.Costs.{Level, Table, amount}

-- what a level gives with the choice c, where it gave `part`
abbrev pub part_with : Level → ℕ → ℕ → ℕ
part_with level part c = if level.greatest then max part (amount level c) else part + amount level c

-- The parts with the choice c: one for each level, and what is left is the count of choices.
abbrev pub parts_with : List Level → List ℕ → ℕ → List ℕ
parts_with [] parts c = map (λ count. count + 1) parts
parts_with (level ∷ levels) [] c = []
parts_with (level ∷ levels) (part ∷ parts) c = part_with level part c ∷ parts_with levels parts c

abbrev pub cost_with : Table → List ℕ → ℕ → List ℕ
cost_with table parts c = parts_with table.levels parts c

-- whether each part is a number of 64 bits
abbrev pub fits : List ℕ → Bool
fits parts = list_all (λ part. nat_lt part (2 ^ 64)) parts
