use Rattle.laws_session.proofs.Births.{AreBirths-legal}
use Rattle.laws_session.proofs.Unsplit.{AreLeavesUnsplit-legal}
use Rattle.laws_session.proofs.leaves_are_unsplit_births.Goals as goal

pub returns-clause-births : goal.returns-clause-births
returns-clause-births c = AreBirths-legal

pub returns-clause-unsplit : goal.returns-clause-unsplit
returns-clause-unsplit c = AreLeavesUnsplit-legal
