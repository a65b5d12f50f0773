-- The order in which versions are found by halves.
use Rattle.std.specs.Prelude.{◌≡◌, ℕ, ◌<◌, true, false, List, length, Some, slice_index_or}
use Rattle.std.specs.List.Sorted.{IsSorted}
use Rattle.std.specs.Ordering.{on}
use Rattle.std.specs.declared.cmp.Ordering.{Ordering}
use Rattle.lists.specs.Sets.{has}
use Rattle.laws_universe.specs.Standing.{known_order}
use Rattle.universe_model.specs.Universes.{Known, nothing_known}

-- how the versions with two numbers stand
abbrev pub number_order : List Known → ℕ → ℕ → Ordering
number_order vs = on (λ v. slice_index_or vs v nothing_known) known_order

-- these are the numbers of all versions, in that order
pub record AreInOrder (vs : List Known) (order : List ℕ) : Type 0 where
  pub sorted : IsSorted (number_order vs) order
  pub all : (v : ℕ) → v < length vs → has order v ≡ true

-- a version of this package with this text, as it is sought
abbrev pub sought : ℕ → List ℕ → Known
sought q text = record { package_number = q; text = Some text; essential = false }
