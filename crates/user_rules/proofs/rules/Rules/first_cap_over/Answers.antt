use Rattle.user_rules.proofs.Searches.{least_over_found}
use Rattle.user_rules.proofs.rules.Rules.first_cap_over.Goals as goal

pub returns : goal.returns
returns c = rw (← c.self.view_is) (least_over_found (record { approved = c.self.inside.approved; rejected = c.self.inside.rejected; caps = c.self.inside.caps.items }) c.args.parts.now c.first_over.result c.self.invariant.caps (rw (← c.deref.ensures.value) c.first_over.ensures))
