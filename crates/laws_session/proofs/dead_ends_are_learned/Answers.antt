use Rattle.laws_session.proofs.Learning.{dead_end}
use Rattle.laws_session.proofs.dead_ends_are_learned.Goals as goal

pub returns : goal.returns
returns c = dead_end
