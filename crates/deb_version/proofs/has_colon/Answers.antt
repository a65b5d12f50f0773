use Rattle.std.proofs.Common.{◌∙◌}
use Rattle.deb_version.specs.Versions.{is_colon}
use Rattle.deb_version.proofs.Cuts.{found}
use Rattle.deb_version.proofs.has_colon.Goals as goal

pub returns : goal.returns
returns c = c.is_some.ensures ∙ found is_colon c.args.text.now c.args.colon c.requires
