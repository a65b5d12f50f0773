use Rattle.laws_session.proofs.Hands.{AreHandsApart-legal}
use Rattle.laws_session.proofs.hands_are_apart.Goals as goal

pub returns : goal.returns
returns c = AreHandsApart-legal
