use Rattle.laws_session.proofs.Covered.{AreLeavesTrue-legal}
use Rattle.laws_session.proofs.leaves_are_true.Goals as goal

pub returns : goal.returns
returns c = AreLeavesTrue-legal
