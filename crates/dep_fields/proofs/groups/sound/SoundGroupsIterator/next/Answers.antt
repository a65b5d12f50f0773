use Rattle.std.proofs.Common.{◌≡◌, true, None, List, drop, subst}
use Rattle.dep_fields.specs.Fields.{Span, bar, comma, field_in, pieces, spans_in}
use Rattle.dep_fields.specs.Cuts.{span_of}
use Rattle.dep_fields.proofs.Parts.{no-fault-reads}
use Rattle.dep_fields.proofs.Laws.{first-sound}
use Rattle.dep_fields.proofs.groups.sound.SoundGroupsIterator.next.Goals as goal

pub invariant_of-result : goal.invariant_of-result
invariant_of-result c =
    let groups = c.args.self.now in
    let span = c.in_ok-span.span in
    let rest = spans_in span.end (pieces comma (drop span.end groups.value.now)) in
    let P : List Span → Type 0 = λ spans. (field_in true spans).fault ≡ None in
    let sound = subst P c.in_ok-span.ensures.first groups.sound in
    record { whole = no-fault-reads true span.at (pieces bar span.text.now) (first-sound (span_of span) rest sound) }
