-- There are no names.
use Rattle.std.proofs.Common.{ℕ, List, [], sym, subst}
use Rattle.std.specs.Global.{Vec}
use Rattle.universe_parts.specs.Names.{AreNumbered}
use Rattle.universe_parts.proofs.names.Names.new.Goals as goal

pub invariant_of-result : goal.invariant_of-result
invariant_of-result c = (
  c.in_ok-slots.ensures.sized,
  (
    subst (λ (list : List (List ℕ)). AreNumbered list c.in_ok-slots.slots.items c.new-2.result.entries) (sym c.new.ensures)
        (subst (λ (es : List (Vec ℕ × ℕ)). AreNumbered [] c.in_ok-slots.slots.items es) (sym c.new-2.ensures.empty) c.in_ok-slots.ensures.free),
    tt,
  ),
)
