use Rattle.std.proofs.Common.{refl, sym}
use Rattle.wanted.proofs.Owners.{action-own, package-named}
use Rattle.wanted.proofs.words.action_of_text.Goals as goal

pub returns-clause-own : goal.returns-clause-own
returns-clause-own c =
    let q = c.in_ok-package_number.package_number in
    action-own c.args.universe.now q c.in_ok-version.version (package-named c.args.universe.now c.args.name.now q (sym c.in_ok-package_number.ensures.package))
    (c.in_ok-version.ensures.own c.in_ok-version.version refl)
