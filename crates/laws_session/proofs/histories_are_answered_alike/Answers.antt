use Rattle.laws_session.proofs.Wholes.{AreAnsweredAlike-all}
use Rattle.laws_session.proofs.histories_are_answered_alike.Goals as goal

pub returns : goal.returns
returns c = AreAnsweredAlike-all
