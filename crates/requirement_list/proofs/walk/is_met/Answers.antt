use Rattle.requirement_list.proofs.Unmet.{has_here, has_none_left}
use Rattle.requirement_list.proofs.walk.is_met.Goals as goal

pub returns-then-place-met-clause-met : goal.returns-then-place-met-clause-met
returns-then-place-met-clause-met c = has_here c.args.met.now c.requires.rising c.args.place c.args.version c.requires.before c.requires.after c.if-place-met.true

pub returns-else-place-met-clause-met : goal.returns-else-place-met-clause-met
returns-else-place-met-clause-met c = has_none_left c.args.met.now c.requires.rising c.args.place c.args.version c.requires.before c.if-place-met.false
