use Rattle.std.proofs.Common.{ap}
use Rattle.universe_model.specs.Universes.{Known}
use Rattle.universe.proofs.ListedAt.{listed-at, listed-past}
use Rattle.universe.proofs.order.package_at.Goals as goal

pub returns-in-Some : goal.returns-in-Some
returns-in-Some c =
    let at = c.in-Some.ensures.lookup in
    ap (λ (v : Known). v.package_number) (listed-at c.args.versions.now c.args.number c.in-Some.version.now at.3.0 at.1)

pub returns-in-None : goal.returns-in-None
returns-in-None c = ap (λ (v : Known). v.package_number) (listed-past c.args.versions.now c.args.number c.in-None.ensures.lookup.3)
