use Rattle.std.proofs.Common.{◌≡◌, ◌∙◌, ◌<◌, ◌+◌, ◌-◌, ap, sym, subst, set, length, arith, List}
use Rattle.std.proofs.lemmas.List.{length-set}
use Rattle.frontier.specs.declared.ladder.Best.{Best}
use Rattle.frontier.specs.Ladders.{best_of, ArePlaces}
use Rattle.frontier.proofs.Ladders.{IsRightFrom, right_down, places_set}
use Rattle.frontier.proofs.ladder.rebuild.Goals as goal

pub loop-place-preserved : goal.loop-place-preserved
loop-place-preserved c =
    let slots = c.args.slots.now in
    let lines = c.args.lines.now in
    let bests = c.loop-place.bests.items in
    let inv = c.loop-place.invariant in
    let place = c.loop-place.place - 1 in
    let most = inv.0 in
    let some = c.loop-place-test.true in
    let lt : place < length slots = omega (arith, most, some) in
    let next : c.loop-place.place ≡ place + 1 = omega (arith, some) in
    let e : c.fix.new.bests.items ≡ set bests place (best_of lines slots bests place) = c.fix.ensures in (
      omega (arith, most),
      ap length e ∙ length-set bests place (best_of lines slots bests place) ∙ inv.1,
      subst (λ (x : List Best). ArePlaces (length slots) x) (sym e) (places_set lines slots bests place lt inv.1 inv.2),
      subst (λ (x : List Best). IsRightFrom lines slots x place) (sym e) (right_down lines slots bests place lt inv.1 (subst (IsRightFrom lines slots bests) next inv.3)),
    )
