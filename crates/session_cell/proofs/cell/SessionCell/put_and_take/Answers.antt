use Rattle.std.proofs.Common.{◌≡◌, refl, ap, subst, sym, ◌∙◌}
use Rattle.resolver_model.specs.Histories.{History}
use Rattle.resolver_model.specs.Answers.{Setting}
use Rattle.cell_rule.specs.declared.view.Hand.{Hand}
use Rattle.cell_rule.specs.Turns.{Called, session_of}
use Rattle.cell_rule.specs.Views.{AreBy}
use Rattle.session_cell.specs.Calls.{ArePutAndTaken}
use Rattle.session_cell.specs.Passes.{Pass, HasOut, knowing}
use Rattle.session_cell.proofs.Calls.{may_return, was_out, put_and_taken_by, same_setting, same_history, turned}
use Rattle.session_cell.proofs.cell.SessionCell.put_and_take.Goals as goal

pub put_and_take_inside-put-requires-clause-job : goal.put_and_take_inside-put-requires-clause-job
put_and_take_inside-put-requires-clause-job g c =
    let took = c.enter.ensures.took in
    let h = c.pass.inside.seat.me.0.own in
    let has = subst (λ (p : Pass). HasOut p c.args.job) (sym c.pass.view_is) c.requires.job in
    was_out h took.0 c.enter.new.seat.me c.args.job took.1 took.2 c.pass.invariant.3 has.0 has.1

pub leave-requires-clause-turn : goal.leave-requires-clause-turn
leave-requires-clause-turn g c =
    let call = c.put_and_take_inside-put in
    let took = c.enter.ensures.took in
    let h = c.pass.inside.seat.me.0.own in
    let m = c.enter.new.seat.me in
    let has = subst (λ (p : Pass). HasOut p c.args.job) (sym c.pass.view_is) c.requires.job in
    let entries = call.ensures.called.0 in
    let called = subst (λ a. Called a m entries call.new.seat.me) has.0 call.ensures.called.1 in
    let by = subst (λ a. AreBy a entries) has.0 (put_and_taken_by (session_of m).setting (session_of m).history c.args.job call.result.0 entries call.ensures.called.2) in
    may_return h took.0 m call.new.seat.me entries took.1 took.2 called by

pub returns-clause-turn : goal.returns-clause-turn
returns-clause-turn g c =
    let call = c.put_and_take_inside-put in
    let took = c.enter.ensures.took in
    let y = took.0 in
    let p : Pass = knowing c.args.pass.now call.new.stop_seat.me.0.own.value in
    let h : Hand = c.pass.inside.seat.me.0.own in
    let m = c.enter.new.seat.me in
    let n = call.new.seat.me in
    let is : p.hand ≡ h = sym (ap (λ (p : Pass). p.hand) c.pass.view_is) in
    let table = c.leave.ensures.seat ∙ (call.ensures.seat ∙ (c.enter.ensures.seat ∙ ap (λ (p : Pass). p.table) c.pass.view_is)) in
    let stops = call.ensures.stops ∙ ap (λ (p : Pass). p.stops) c.pass.view_is in
    let has = subst (λ (p : Pass). HasOut p c.args.job) (sym c.pass.view_is) c.requires.job in
    let job = c.args.job in
    let r = call.result.0 in
    let entries = call.ensures.called.0 in
    let put = call.ensures.called.2 in
    let called = subst (λ a. Called a m entries n) has.0 call.ensures.called.1 in
    let by = subst (λ a. AreBy a entries) has.0 (put_and_taken_by (session_of m).setting (session_of m).history job r entries put) in
    let told = subst (λ (x : Setting × History). ArePutAndTaken x.0 x.1 job r entries) (λ i. (same_setting p h y m is took.1 took.2 i, same_history h y m took.1 i)) put in
    (y.history, entries, turned p _ h y m n c.leave.new.seat.me entries is took.1 took.2 called by call.ensures.legal c.leave.ensures.returned table stops refl refl, told)
