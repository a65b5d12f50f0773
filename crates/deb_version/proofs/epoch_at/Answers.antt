use Rattle.std.proofs.Common.{◌∙◌, sym}
use Rattle.deb_version.specs.Versions.{is_colon}
use Rattle.lists.proofs.Tests.{position_some, position_none}
use Rattle.deb_version.proofs.epoch_at.Goals as goal

pub returns-in-Some : goal.returns-in-Some
returns-in-Some c =
    let at = position_some is_colon c.args.text.now c.in-Some.place (sym c.in-Some.is ∙ c.requires) in
    rw (at.0, sym at.1)

pub returns-in-None : goal.returns-in-None
returns-in-None c =
    let none = position_none is_colon c.args.text.now (sym c.in-None.is ∙ c.requires) in
    rw none
