use Rattle.laws_session.proofs.Sound.{AreLinesSound-legal}
use Rattle.laws_session.proofs.lines_stay_sound.Goals as goal

pub returns : goal.returns
returns c = AreLinesSound-legal
