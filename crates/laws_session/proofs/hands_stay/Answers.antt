use Rattle.laws_session.proofs.Staying.{IsKeptOut-legal}
use Rattle.laws_session.proofs.hands_stay.Goals as goal

pub returns : goal.returns
returns c = IsKeptOut-legal
