use Rattle.laws_universe.proofs.Standing.{dependencies-ordered}
use Rattle.laws_universe.proofs.dependencies_stand_in_order.Goals as goal

pub returns : goal.returns
returns c = dependencies-ordered
