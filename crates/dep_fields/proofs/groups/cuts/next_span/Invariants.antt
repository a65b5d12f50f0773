use Rattle.std.proofs.Common.{◌≡◌, length, drop}
use Rattle.dep_fields.specs.Fields.{pieces, parts_left, comma, spans_in}
use Rattle.dep_fields.specs.Cuts.{left_len}
use Rattle.dep_fields.proofs.Parts.{Ends, IsLeft}
use Rattle.dep_fields.proofs.groups.cuts.next_span.Given as goal

abbrev pub invariant-loop-left : goal.invariant-loop-left
invariant-loop-left l = record {
  spans : spans_in l.place (parts_left comma l.left) ≡ spans_in l.start (pieces comma (drop l.start l.value));
  ends : Ends l.place (length l.value) l.left;
  left : IsLeft l.value l.start l.place l.left;
}

abbrev pub decreases-loop-left : goal.decreases-loop-left
decreases-loop-left l = left_len l.left
