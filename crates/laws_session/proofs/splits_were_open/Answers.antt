use Rattle.laws_session.proofs.Opened.{AreSplitsOpen-legal}
use Rattle.laws_session.proofs.splits_were_open.Goals as goal

pub returns : goal.returns
returns c = AreSplitsOpen-legal
