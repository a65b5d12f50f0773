-- Caps in the order of their levels, and the place of one.
use Rattle.std.specs.Prelude.{◌≡◌, ◌<◌, ◌≤◌, ℕ, List, length}
pub use Rattle.resolver_model.specs.Rules.{Cap, level_at, RisesByLevel}

-- the cap at this place is on the level
pub record IsAt (caps : List Cap) (level place : ℕ) : Type 0 where
  pub in_range : place < length caps
  pub has_level : level_at caps place ≡ level

-- a cap on the level would go to this place: lower levels before it, and higher ones from it on
pub record IsGapFor (caps : List Cap) (level place : ℕ) : Type 0 where
  pub in_range : place ≤ length caps
  pub lower_before : (j : ℕ) → j < place → level_at caps j < level
  pub higher_after : (j : ℕ) → place ≤ j → j < length caps → level < level_at caps j
