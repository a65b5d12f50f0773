use Rattle.std.proofs.Common.{◌≡◌, false, take}
use Rattle.hint_file.specs.Prices.{is_past}
use Rattle.hint_file.specs.Rows.{table_upto}
use Rattle.hint_file.specs.Scenes.{scene_of}
use Rattle.hint_file.proofs.prices.price_levels.Given as goal

-- the levels so far have their amounts, and none of these is too much
abbrev pub invariant-loop-place : goal.invariant-loop-place
invariant-loop-place l = record {
  little : is_past (scene_of l.setting) l.hints (take l.place l.levels) ≡ false;
  table : l.table ≡ table_upto (scene_of l.setting) l.hints l.place l.levels;
}
