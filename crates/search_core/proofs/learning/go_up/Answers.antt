-- What was learned on the way is what the split has to learn.
use Rattle.std.proofs.Common.{◌++◌, List, Some, refl, ap, sym, subst, ◌∙◌}
use Rattle.resolver_model.specs.declared.lines.Line.{Line}
use Rattle.resolver_model.specs.declared.history.By.TheVariants.{Dep}
use Rattle.search_core.specs.Climbs.{IsAt, IsLearned}
use Rattle.search_core.specs.declared.learning.Rung.{Rung}
use Rattle.search_core.proofs.Climbs.{IsAt-first, IsLearned-end}
use Rattle.search_core.proofs.learning.go_up.Goals as goal

pub loop-climb-init : goal.loop-climb-init
loop-climb-init c =
    let L : List Line → Type 0 = λ lines. IsAt c.args.ledger.now.setting c.args.ledger.now.history c.args.learned.now (record { start = c.args.start; next = Some c.args.start; lines = lines }) in
    record { at = subst L (sym c.new.ensures) (IsAt-first c.args.ledger.now.setting c.args.ledger.now.history c.args.learned.now c.args.start c.requires.all c.requires.leaf c.requires.way); start_is = refl }

pub returns-in_err-step-clause-more : goal.returns-in_err-step-clause-more
returns-in_err-step-clause-more c = (c.loop-climb.climb.lines, c.in_err-step.ensures.err ∙ c.loop-climb.invariant.at.all ∙ ap (λ ls. ls ++ c.loop-climb.climb.lines) (sym c.requires.all))

pub returns-clause-all : goal.returns-clause-all
returns-clause-all c = c.loop-climb.invariant.at.all ∙ ap (λ ls. ls ++ c.loop-climb.climb.lines) (sym c.requires.all)

pub returns-clause-more : goal.returns-clause-more
returns-clause-more c = (c.loop-climb.climb.lines, c.loop-climb.invariant.at.all ∙ ap (λ ls. ls ++ c.loop-climb.climb.lines) (sym c.requires.all))

pub returns-clause-ok : goal.returns-clause-ok
returns-clause-ok c =
    let s = c.args.ledger.now.setting in
    let history = c.args.ledger.now.history in
    let P : Rung → Type 0 = λ r. IsLearned s history r.leaf (Dep r.dep) c.loop-climb.climb.lines in
    subst P c.loop-climb.invariant.start_is (IsLearned-end s history c.loop-climb.learned c.loop-climb.climb c.requires.world.legal c.loop-climb.invariant.at c.in_default.is)
