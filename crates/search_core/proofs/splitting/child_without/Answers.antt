use Rattle.std.proofs.Common.{◌≡◌, ap, sym, ◌∙◌}
use Rattle.search_core.proofs.splitting.child_without.Goals as goal

pub returns : goal.returns
returns c p table left same = cc (c.is_closed.ensures p c.args.node.taken left, c.in_ok-cost.ensures, same)
