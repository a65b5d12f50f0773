use Rattle.laws_universe.proofs.States.{installed-one_of_each}
use Rattle.laws_universe.proofs.installed_are_versions.Goals as goal

pub returns : goal.returns
returns c = installed-one_of_each
