use Rattle.std.proofs.Common.{refl}
use Rattle.requirement_list.proofs.Collecting.{come_counted}
use Rattle.requirement_list.proofs.collected.Collected.count_one.Goals as goal

pub returns-then-self-clause-adds : goal.returns-then-self-clause-adds
returns-then-self-clause-adds c = λ r. come_counted r c.args.self.now _ c.requires c.if-self.true refl
