use Rattle.laws_universe.proofs.KnownOrder.{versions-stand}
use Rattle.laws_universe.proofs.versions_stand_apart.Goals as goal

pub returns : goal.returns
returns c = versions-stand
