use Rattle.std.proofs.Common.{◌∙◌, ◌-◌, length, sym}
use Rattle.deb_version.specs.Versions.{is_hyphen}
use Rattle.std.proofs.lemmas.List.{take_rest}
use Rattle.deb_version.proofs.Cuts.{last_some, last_none}
use Rattle.deb_version.proofs.revision_at.Goals as goal

pub returns-in-Some : goal.returns-in-Some
returns-in-Some c =
    let at = last_some is_hyphen c.args.rest.now c.in-Some.behind (sym c.in-Some.is ∙ c.requires) in
    rw (at.0, sym at.1) (take_rest c.args.rest.now (length c.args.rest.now - c.in-Some.behind))

pub returns-in-None : goal.returns-in-None
returns-in-None c =
    let none = last_none is_hyphen c.args.rest.now (sym c.in-None.is ∙ c.requires) in
    rw none
