use Rattle.laws_universe.proofs.States.{candidates-one_of_each}
use Rattle.laws_universe.proofs.candidates_are_versions.Goals as goal

pub returns : goal.returns
returns c = candidates-one_of_each
