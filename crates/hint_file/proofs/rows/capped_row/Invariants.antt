use Rattle.std.proofs.Common.{take}
use Rattle.hint_file.specs.Rows.{IsRow}
use Rattle.hint_file.specs.Scenes.{scene_of}
use Rattle.hint_file.proofs.rows.capped_row.Given as goal

abbrev pub invariant-loop-term : goal.invariant-loop-term
invariant-loop-term l = IsRow (scene_of l.setting) l.hints (take l.term-index l.terms) l.row.items
