use Rattle.std.proofs.Common.{[], subst}
use Rattle.cell_rule.specs.Turns.{Called}
use Rattle.session_cell.proofs.Calls.{may_return}
use Rattle.session_cell.proofs.cell.SessionCell.reserve.Goals as goal

pub leave-requires-clause-turn : goal.leave-requires-clause-turn
leave-requires-clause-turn g c =
    let call = c.reserve_inside-reserved in
    let took = c.enter.ensures.took in
    let m = c.enter.new.seat.me in
    let called = subst (λ a. Called a m [] call.new.seat.me) c.pass.invariant.1 call.ensures.called in
    may_return c.pass.inside.seat.me.0.own took.0 m call.new.seat.me [] took.1 took.2 called tt
