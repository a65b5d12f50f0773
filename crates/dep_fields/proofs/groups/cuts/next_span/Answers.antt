use Rattle.std.proofs.Common.{ℕ, List, length, sym, ap, ◌∙◌, subst}
use Rattle.std.specs.Prelude.{Option}
use Rattle.std.specs.Borrow.{Bor}
use Rattle.dep_fields.specs.Fields.{parts_left, spans_in, comma}
use Rattle.dep_fields.proofs.Parts.{first-span, left-on, spans-skip, ends-on, Ends, IsLeft}
use Rattle.dep_fields.proofs.groups.cuts.next_span.Goals as goal

pub returns-then-not-is_empty_group : goal.returns-then-not-is_empty_group
returns-then-not-is_empty_group c =
    let value = c.args.value.now in
    let loop = c.loop-left in
    let E : Option (Bor (List ℕ)) → Type 0 = λ left. Ends loop.place (length value) left in
    let L : Option (Bor (List ℕ)) → Type 0 = λ left. IsLeft value c.args.start loop.place left in
    let left = subst L c.in-Some.is loop.invariant.left in
    let spans = ap (λ (o : Option (Bor (List ℕ))). spans_in loop.place (parts_left comma o)) (sym c.in-Some.is) ∙ loop.invariant.spans in
    let found = first-span value c.args.start loop.place c.in-Some.text.now c.cut.result.0 c.cut.result.1 spans (subst E c.in-Some.is loop.invariant.ends)
    left.0 left.2 c.cut.ensures.parts c.cut.ensures.whole c.cut.ensures.unmarked (sym c.is_empty_group.ensures ∙ c.if-not-is_empty_group.true) in
    rw c.min.ensures found

pub loop-left-preserved : goal.loop-left-preserved
loop-left-preserved c =
    let value = c.args.value.now in
    let loop = c.loop-left in
    let E : Option (Bor (List ℕ)) → Type 0 = λ left. Ends loop.place (length value) left in
    let L : Option (Bor (List ℕ)) → Type 0 = λ left. IsLeft value c.args.start loop.place left in
    let ends = subst E c.in-Some.is loop.invariant.ends in
    let left = subst L c.in-Some.is loop.invariant.left in
    let blank = sym c.is_empty_group.ensures ∙ c.if-not-is_empty_group.false in
    record {
      spans = sym (ap (λ (o : Option (Bor (List ℕ))). spans_in loop.place (parts_left comma o)) c.in-Some.is ∙ ap (spans_in loop.place) c.cut.ensures.parts
          ∙ spans-skip loop.place c.cut.result.0.now (parts_left comma c.cut.result.1) blank) ∙ loop.invariant.spans;
      ends = ends-on loop.place (length value) c.in-Some.text.now c.cut.result.0.now c.cut.result.1 ends c.cut.ensures.whole;
      left = left-on value c.args.start loop.place c.in-Some.text.now c.cut.result.0.now c.cut.result.1 left.0 ends left.2 c.cut.ensures.whole blank;
    }
