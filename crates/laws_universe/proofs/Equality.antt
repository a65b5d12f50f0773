-- Equality in the order of versions is an equivalence.
use Rattle.std.specs.Cmp.{IsEquivalence}
use Rattle.deb_version.specs.VersionOrder.{version_order}
use Rattle.deb_version.proofs.Keys.{version_order-preorder}
use Rattle.universe_model.specs.Versions.{is_equal}
use Rattle.universe_model.proofs.Orders.{equal-equivalence}

pub equal-laws : IsEquivalence is_equal
equal-laws = equal-equivalence version_order version_order-preorder
