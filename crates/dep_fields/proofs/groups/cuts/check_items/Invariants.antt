use Rattle.std.proofs.Common.{◌≡◌, ◌+◌, length}
use Rattle.dep_fields.specs.Fields.{pieces, parts_left, bar, first_fault}
use Rattle.dep_fields.specs.Cuts.{left_len}
use Rattle.dep_fields.proofs.Parts.{Ends}
use Rattle.dep_fields.proofs.groups.cuts.check_items.Given as goal

abbrev pub invariant-loop-left : goal.invariant-loop-left
invariant-loop-left l = record {
  fault : first_fault l.alternatives l.place (parts_left bar l.left) ≡ first_fault l.alternatives l.start (pieces bar l.text);
  ends : Ends l.place (l.start + length l.text) l.left;
}

abbrev pub decreases-loop-left : goal.decreases-loop-left
decreases-loop-left l = left_len l.left
