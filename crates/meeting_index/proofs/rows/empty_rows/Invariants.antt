use Rattle.std.proofs.Common.{◌≡◌, [], map, replicate}
use Rattle.meeting_index.specs.Rows.{row_numbers}
use Rattle.meeting_index.proofs.rows.empty_rows.Given as goal

-- those so far have no numbers
abbrev pub invariant-loop-row : goal.invariant-loop-row
invariant-loop-row l = map row_numbers l.rows.items ≡ replicate l._row []
