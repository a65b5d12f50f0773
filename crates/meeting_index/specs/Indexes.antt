-- What is asked for the versions that meet an item.
use Rattle.std.specs.Prelude.{ℕ, List}
use Rattle.universe_model.specs.Versions.{Version}

-- the native architecture and all versions
pub record Indexed : Type 0 where
  pub native : List ℕ
  pub versions : List Version
