use Rattle.std.proofs.Common.{◌∙◌}
use Rattle.deb_version.specs.Versions.{is_hyphen}
use Rattle.deb_version.proofs.Cuts.{found_last}
use Rattle.deb_version.proofs.has_hyphen.Goals as goal

pub returns : goal.returns
returns c = c.is_some.ensures ∙ found_last is_hyphen c.args.rest.now c.args.hyphen c.requires
