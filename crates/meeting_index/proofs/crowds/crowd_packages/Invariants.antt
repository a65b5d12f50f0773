use Rattle.std.proofs.Common.{◌≡◌, ◌<◌, ℕ, true, get_or}
use Rattle.meeting_index.specs.Crowds.{ArePut, AreRight, is_crowd}
use Rattle.meeting_index.specs.Provided.{carriers_listed}
use Rattle.meeting_index.specs.declared.rows.NumberRow.{NumberRow}
use Rattle.meeting_index.proofs.crowds.crowd_packages.Given as goal

-- the crowds so far are right, and the crowded rows so far have theirs
abbrev pub invariant-loop-row : goal.invariant-loop-row
invariant-loop-row l = record {
  right : AreRight (carriers_listed l.carriers) l.named l.crowds;
  there : (k : ℕ) (d : NumberRow) → k < l.row-index → is_crowd (get_or l.row-items k d).numbers.items ≡ true → ArePut (carriers_listed l.carriers) l.named l.crowds (get_or l.row-items k d).bytes.now;
}
