use Rattle.std.proofs.Common.{◌≡◌, refl, ap, subst, sym, ◌∙◌}
use Rattle.cell_rule.specs.declared.view.Hand.{Hand}
use Rattle.cell_rule.specs.Turns.{Called}
use Rattle.cell_rule.specs.Views.{AreBy}
use Rattle.session_cell.specs.Calls.{given_back}
use Rattle.session_cell.specs.Passes.{Pass, HasOut}
use Rattle.session_cell.proofs.Calls.{may_return, was_out, back_by, turned}
use Rattle.session_cell.proofs.cell.SessionCell.back.Goals as goal

pub back_inside-count-requires-clause-job : goal.back_inside-count-requires-clause-job
back_inside-count-requires-clause-job g c =
    let took = c.enter.ensures.took in
    let h = c.pass.inside.seat.me.0.own in
    let has = subst (λ (p : Pass). HasOut p c.args.job) (sym c.pass.view_is) c.requires.job in
    was_out h took.0 c.enter.new.seat.me c.args.job took.1 took.2 c.pass.invariant.3 has.0 has.1

pub leave-requires-clause-turn : goal.leave-requires-clause-turn
leave-requires-clause-turn g c =
    let call = c.back_inside-count in
    let took = c.enter.ensures.took in
    let h = c.pass.inside.seat.me.0.own in
    let m = c.enter.new.seat.me in
    let has = subst (λ (p : Pass). HasOut p c.args.job) (sym c.pass.view_is) c.requires.job in
    let entries = given_back c.args.job in
    let called = subst (λ a. Called a m entries call.new.seat.me) has.0 call.ensures.called in
    let by = subst (λ a. AreBy a entries) has.0 (back_by c.args.job) in
    may_return h took.0 m call.new.seat.me entries took.1 took.2 called by

pub returns-clause-turn : goal.returns-clause-turn
returns-clause-turn g c =
    let call = c.back_inside-count in
    let took = c.enter.ensures.took in
    let y = took.0 in
    let p : Pass = c.args.pass.now in
    let h : Hand = c.pass.inside.seat.me.0.own in
    let m = c.enter.new.seat.me in
    let n = call.new.seat.me in
    let is : p.hand ≡ h = sym (ap (λ (p : Pass). p.hand) c.pass.view_is) in
    let table = c.leave.ensures.seat ∙ (call.ensures.seat ∙ (c.enter.ensures.seat ∙ ap (λ (p : Pass). p.table) c.pass.view_is)) in
    let stops = ap (λ (p : Pass). p.stops) c.pass.view_is in
    let stop = ap (λ (p : Pass). p.stop) c.pass.view_is in
    let has = subst (λ (p : Pass). HasOut p c.args.job) (sym c.pass.view_is) c.requires.job in
    let job = c.args.job in
    let entries = given_back job in
    let called = subst (λ a. Called a m entries n) has.0 call.ensures.called in
    let by = subst (λ a. AreBy a entries) has.0 (back_by job) in
    (y.history, turned p _ h y m n c.leave.new.seat.me entries is took.1 took.2 called by call.ensures.legal c.leave.ensures.returned table stops stop refl)
