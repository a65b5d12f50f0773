use Rattle.std.proofs.Common.{sym, ◌∙◌}
use Rattle.deb_version.specs.Versions.{parts}
use Rattle.wanted.proofs.Owners.{version-found}
use Rattle.wanted.proofs.words.version_of_text.Goals as goal

pub returns-in-Ok-clause-own : goal.returns-in-Ok-clause-own
returns-in-Ok-clause-own c v e = version-found c.args.universe.now c.args.«package» v (parts c.in-Ok.version.text.now) (sym c.version.ensures.version ∙ e)
