use Rattle.laws_session.proofs.Counted.{IsCursorLow-legal}
use Rattle.laws_session.proofs.cursors_stay_low.Goals as goal

pub returns : goal.returns
returns c = IsCursorLow-legal
