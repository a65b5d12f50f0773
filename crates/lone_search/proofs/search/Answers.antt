-- What a search has come to where it ends.
use Rattle.std.proofs.Common.{refl, subst, sym}
use Rattle.resolver_model.specs.declared.history.Command.TheVariants.{Next}
use Rattle.search_core.specs.Sessions.{Session}
use Rattle.lone_search.specs.Answers.{IsGivenUp}
use Rattle.lone_search.proofs.Stepping.{gone-step, given-up, given-up-tried, answered-so, on_err}
use Rattle.lone_search.proofs.search.Goals as goal

pub returns-in_err-step-clause-refused : goal.returns-in_err-step-clause-refused
returns-in_err-step-clause-refused c =
    let first = c.args.session.now in
    let now = c.loop-session.session in
    on_err (IsGivenUp first c.step.new.session) c.from_residual.result (given-up-tried first now c.step.new.session c.loop-session.invariant.gone c.in_err-step.ensures.undone)

pub returns-in_err-said-clause-refused : goal.returns-in_err-said-clause-refused
returns-in_err-said-clause-refused c =
    let first = c.args.session.now in
    let now = c.loop-session.session in
    let gone = gone-step first now c.step.new.session c.loop-session.invariant.gone c.in_ok-step.ensures.done in
    on_err (IsGivenUp first c.answer.new.self) c.from_residual-in_err-said.result
    (subst (λ (s : Session). IsGivenUp first s) (sym c.in_err-said.ensures.after) (given-up first c.step.new.session gone))

pub returns-in-Said-clause-said : goal.returns-in-Said-clause-said
returns-in-Said-clause-said c =
    let first = c.args.session.now in
    let now = c.loop-session.session in
    let mid = c.step.new.session in
    answered-so mid.setting first mid c.answer.new.self c.in_ok-said.field-0 c.in-Said.said Next refl
    (gone-step first now mid c.loop-session.invariant.gone c.in_ok-step.ensures.done) c.in-Said.is c.in_ok-said.ensures.answer c.in_ok-said.ensures.after
