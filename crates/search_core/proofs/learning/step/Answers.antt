-- The line follows from those held, and is carried upwards or known already.
use Rattle.std.proofs.Common.{◌<◌, ◌++◌, ◌∷◌, [], Option, ap, sym, subst, ◌∙◌}
use Rattle.resolver_model.specs.declared.lines.Line.{Line}
use Rattle.resolver_model.specs.Histories.{given_at}
use Rattle.search_core.specs.Climbs.{height}
use Rattle.search_core.specs.declared.learning.Rung.{Rung}
use Rattle.search_core.proofs.Climbs.{IsHeldAt-rung, stopped_at, more_at, lower_above}
use Rattle.search_core.proofs.learning.step.Goals as goal

pub derive-requires-clause-choices : goal.derive-requires-clause-choices
derive-requires-clause-choices c = (IsHeldAt-rung c.args.ledger.now.setting c.args.ledger.now.history c.args.basis.now.problem c.args.basis.now.table c.args.frontier.now c.args.learned.now c.args.climb.now c.args.rung c.in_ok-taken.taken c.requires.world c.requires.at c.requires.rung c.in_ok-taken.ensures).choices

pub derive-requires-clause-consistent : goal.derive-requires-clause-consistent
derive-requires-clause-consistent c = (IsHeldAt-rung c.args.ledger.now.setting c.args.ledger.now.history c.args.basis.now.problem c.args.basis.now.table c.args.frontier.now c.args.learned.now c.args.climb.now c.args.rung c.in_ok-taken.taken c.requires.world c.requires.at c.requires.rung c.in_ok-taken.ensures).consistent

pub derive-requires-clause-open : goal.derive-requires-clause-open
derive-requires-clause-open c = (IsHeldAt-rung c.args.ledger.now.setting c.args.ledger.now.history c.args.basis.now.problem c.args.basis.now.table c.args.frontier.now c.args.learned.now c.args.climb.now c.args.rung c.in_ok-taken.taken c.requires.world c.requires.at c.requires.rung c.in_ok-taken.ensures).opened

pub derive-requires-clause-lengths : goal.derive-requires-clause-lengths
derive-requires-clause-lengths c = (IsHeldAt-rung c.args.ledger.now.setting c.args.ledger.now.history c.args.basis.now.problem c.args.basis.now.table c.args.frontier.now c.args.learned.now c.args.climb.now c.args.rung c.in_ok-taken.taken c.requires.world c.requires.at c.requires.rung c.in_ok-taken.ensures).fit

pub is_worth-requires : goal.is_worth-requires
is_worth-requires c = (IsHeldAt-rung c.args.ledger.now.setting c.args.ledger.now.history c.args.basis.now.problem c.args.basis.now.table c.args.frontier.now c.args.learned.now c.args.climb.now c.args.rung c.in_ok-taken.taken c.requires.world c.requires.at c.requires.rung c.in_ok-taken.ensures).low

pub returns-then-not-branch-clause-at : goal.returns-then-not-branch-clause-at
returns-then-not-branch-clause-at c =
    stopped_at c.args.ledger.now.setting c.args.ledger.now.history c.args.basis.now.problem c.args.basis.now.table c.args.frontier.now c.args.learned.now c.args.climb.now c.args.rung c.in_ok-line.line c.in_ok-taken.taken c.requires.world c.requires.at c.requires.rung c.in_ok-taken.ensures
    (λ bound all. c.in_ok-line.ensures.at_least bound all) (sym c.in_ok-is_worth.ensures ∙ c.if-not-branch.true)

pub returns-clause-at : goal.returns-clause-at
returns-clause-at c =
    more_at c.args.ledger.now.setting c.args.ledger.now.history c.args.basis.now.problem c.args.basis.now.table c.args.frontier.now c.args.learned.now c.add.new.self c.push.new.self c.args.climb.now c.args.rung c.in_ok-line.line c.in_ok-taken.taken c.rung_above-climb.result c.requires.world c.requires.at c.requires.rung c.in_ok-taken.ensures
    c.in_ok-line.ensures.within (c.in_ok-line.ensures.derived (given_at c.args.ledger.now.history)) (λ bound all. c.in_ok-line.ensures.at_least bound all) c.in_ok-add.ensures (c.in_ok-push.ensures ∙ ap (λ (l : Line). c.args.climb.now.lines ++ l ∷ []) c.in_ok-own.ensures) c.rung_above-climb.ensures

pub returns-clause-lower : goal.returns-clause-lower
returns-clause-lower c =
    let H : Option Rung → Type 0 = λ next. height next < height c.args.climb.now.next in
    subst H (sym c.rung_above-climb.ensures) (lower_above c.args.ledger.now.setting c.args.ledger.now.history c.args.basis.now.problem c.args.basis.now.table c.args.frontier.now c.args.learned.now c.args.climb.now c.args.rung c.requires.world c.requires.at c.requires.rung)
