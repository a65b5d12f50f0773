-- The order of versions that stanzas give is total.
use Rattle.std.specs.Cmp.{IsTotalOrder, on_total}
use Rattle.deb_version.specs.VersionOrder.{version_order}
use Rattle.deb_version.proofs.Keys.{version_order-preorder}
use Rattle.version_list.specs.Releases.{release_parts, release_order}
use Rattle.universe_model.proofs.Orders.{order-total}

pub release_order-total : IsTotalOrder release_order
release_order-total = on_total release_parts (order-total version_order version_order-preorder)
