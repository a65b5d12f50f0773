-- How dependencies stand in flat tables: a row for each, and the targets of all rows one after another.
use Rattle.std.specs.Prelude.{◌≡◌, ℕ, Bool, ◌&&◌, nat_le, List, map, length, IsTrue}
use Rattle.std.specs.List.{slice_range, list_all, sum_by}
use Rattle.resolver_model.specs.Problems.{Dependency}
use Rattle.problem.specs.declared.tables.Row.{Row}

abbrev pub dependency_of : List ℕ → Row → Dependency
dependency_of targets row = record { source = row.source; targets = slice_range targets row.first row.end; soft = row.soft }

-- a row's part of the targets is within them
abbrev pub is_row : List ℕ → Row → Bool
is_row targets row = nat_le row.first row.end && nat_le row.end (length targets)

abbrev pub dependencies_of : List ℕ → List Row → List Dependency
dependencies_of targets rows = map (dependency_of targets) rows

-- each row's part is within the targets, and the parts are as many together as the targets
pub record AreTables (targets : List ℕ) (rows : List Row) : Type 0 where
  pub parts : IsTrue (list_all (is_row targets) rows)
  pub size : length targets ≡ sum_by (λ d. length d.targets) (dependencies_of targets rows)
