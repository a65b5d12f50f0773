-- A later version covers on the one side, and an earlier one on the other.
use Rattle.std.proofs.Common.{◌∙◌, ap, sym, subst}
use Rattle.std.specs.Ordering.{is_ge, is_le}
use Rattle.meeting_index.specs.Fitting.{Covers}
use Rattle.meeting_index.specs.declared.sides.Side.{Side}
use Rattle.meeting_index.proofs.SideLaws.{greatest-covers, least-covers}
use Rattle.meeting_index.proofs.sides.covers.Goals as goal

pub returns-in-Least : goal.returns-in-Least
returns-in-Least c = λ yes.
    subst (λ (s : Side). Covers s c.args.next.now c.args.last.now) (sym c.in-Least.is)
    (least-covers c.args.next.now c.args.last.now c.if-next-last.false (ap is_ge (sym c.compare-order.ensures.order) ∙ sym c.is_ge.ensures ∙ yes))

pub returns-in-Greatest : goal.returns-in-Greatest
returns-in-Greatest c = λ yes.
    subst (λ (s : Side). Covers s c.args.next.now c.args.last.now) (sym c.in-Greatest.is)
    (greatest-covers c.args.next.now c.args.last.now c.if-next-last.false (ap is_le (sym c.compare-order.ensures.order) ∙ sym c.is_le.ensures ∙ yes))
