use Rattle.std.proofs.Common.{◌∙◌}
use Rattle.user_rules.proofs.Searches.{has-searched}
use Rattle.user_rules.proofs.rules.contains.Goals as goal

pub returns : goal.returns
returns c = c.is_ok.ensures.value ∙ has-searched c.as_slice.result.now c.args.set.now c.args.choice c.binary_search.result c.as_slice.ensures.items c.as_slice.ensures.rising c.binary_search.ensures.position
