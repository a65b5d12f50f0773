use Rattle.std.proofs.Common.{◌≡◌, ℕ, IfOk, None, refl, ap, subst, sym, ◌∙◌}
use Rattle.resolver_model.specs.Histories.{History, out_at}
use Rattle.resolver_model.specs.Answers.{Setting}
use Rattle.search_core.specs.Sessions.{IsTaken}
use Rattle.cell_rule.specs.declared.view.Hand.{Hand}
use Rattle.cell_rule.specs.Turns.{Called}
use Rattle.cell_rule.specs.Views.{AreBy}
use Rattle.session_cell.specs.Calls.{taken}
use Rattle.session_cell.specs.Passes.{Pass}
use Rattle.session_cell.proofs.Calls.{may_return, out_now, taken_by, same_setting, same_history, turned}
use Rattle.session_cell.proofs.cell.SessionCell.take.Goals as goal

pub take_inside-taken-requires-clause-idle : goal.take_inside-taken-requires-clause-idle
take_inside-taken-requires-clause-idle g c =
    let took = c.enter.ensures.took in
    let h = c.pass.inside.seat.me.0.own in
    let asked : out_at h.actor h.made ≡ None = ap (λ (p : Pass). out_at p.hand.actor p.hand.made) c.pass.view_is ∙ c.requires.idle in
    out_now h took.0 c.enter.new.seat.me c.pass.inside.actor (None) took.1 took.2 c.pass.invariant.1 asked

pub leave-requires-clause-turn : goal.leave-requires-clause-turn
leave-requires-clause-turn g c =
    let call = c.take_inside-taken in
    let took = c.enter.ensures.took in
    let m = c.enter.new.seat.me in
    let entries = taken c.pass.inside.actor call.result.0 in
    let called = subst (λ a. Called a m entries call.new.seat.me) c.pass.invariant.1 call.ensures.called in
    let by = subst (λ a. AreBy a entries) c.pass.invariant.1 (taken_by c.pass.inside.actor call.result.0) in
    may_return c.pass.inside.seat.me.0.own took.0 m call.new.seat.me entries took.1 took.2 called by

pub returns-clause-turn : goal.returns-clause-turn
returns-clause-turn g c =
    let call = c.take_inside-taken in
    let took = c.enter.ensures.took in
    let y = took.0 in
    let p : Pass = c.args.pass.now in
    let h : Hand = c.pass.inside.seat.me.0.own in
    let m = c.enter.new.seat.me in
    let n = call.new.seat.me in
    let is : p.hand ≡ h = sym (ap (λ (p : Pass). p.hand) c.pass.view_is) in
    let table = c.leave.ensures.seat ∙ (call.ensures.seat ∙ (c.enter.ensures.seat ∙ ap (λ (p : Pass). p.table) c.pass.view_is)) in
    let stops = ap (λ (p : Pass). p.stops) c.pass.view_is in
    let stop = ap (λ (p : Pass). p.stop) c.pass.view_is in
    let actor : c.pass.inside.actor ≡ p.hand.actor = c.pass.invariant.1 ∙ ap (λ (p : Pass). p.hand.actor) c.pass.view_is in
    let r = call.result.0 in
    let entries = taken p.hand.actor r in
    let called = subst (λ (q : ℕ × ℕ). Called q.0 m (taken q.1 r) n) (λ i. (c.pass.invariant.1 i, actor i)) call.ensures.called in
    let by = subst (λ a. AreBy a entries) (ap (λ (h : Hand). h.actor) is) (taken_by p.hand.actor r) in
    let answer = subst (λ (x : Setting × History × ℕ). IfOk r (IsTaken x.0 x.1 x.2)) (λ i. (same_setting p h y m is took.1 took.2 i, same_history h y m took.1 i, actor i)) call.ensures.answer in
    (y.history, turned p _ h y m n c.leave.new.seat.me entries is took.1 took.2 called by call.ensures.legal c.leave.ensures.returned table stops stop refl, answer)
