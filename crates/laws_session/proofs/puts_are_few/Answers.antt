use Rattle.laws_session.proofs.Few.{ArePutsFew-legal, IsNeverNotYet-legal}
use Rattle.laws_session.proofs.puts_are_few.Goals as goal

pub returns-clause-few : goal.returns-clause-few
returns-clause-few c = ArePutsFew-legal

pub returns-clause-slice : goal.returns-clause-slice
returns-clause-slice c = IsNeverNotYet-legal
