use Rattle.std.proofs.Common.{◌≡◌, true, false, rules, ◌∙◌}
use Rattle.std.specs.Ordering.{is_ne}
use Rattle.deb_version.specs.VersionOrder.{part_order}
use Rattle.deb_version.proofs.Turns.{turn_order, turn_decides, turn_equal}
use Rattle.deb_version.proofs.compare_parts.Goals as goal

pub returns-then-is_ne : goal.returns-then-is_ne
returns-then-is_ne c =
    let a = c.loop-a.a.now in
    let b = c.loop-a.b.now in
    let e : c.compare_turns-order.result ≡ turn_order a b = search rules in
    let h : is_ne c.compare_turns-order.result ≡ true = search rules in
    turn_decides a b c.compare_turns-order.result e h ∙ c.loop-a.invariant

pub loop-a-preserved : goal.loop-a-preserved
loop-a-preserved c =
    let a = c.loop-a.a.now in
    let b = c.loop-a.b.now in
    let e : c.compare_turns-order.result ≡ turn_order a b = search rules in
    let h : is_ne c.compare_turns-order.result ≡ false = search rules in
    (λ i. part_order (c.take_turn-one.ensures.behind i) (c.take_turn-other.ensures.behind i)) ∙ turn_equal a b c.compare_turns-order.result e h ∙ c.loop-a.invariant
