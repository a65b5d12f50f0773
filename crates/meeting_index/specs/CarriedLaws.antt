-- The order of carriers with a version is total.
use Rattle.std.specs.Cmp.{IsTotalOrder, nat_cmp_total, on_total, then_total}
use Rattle.deb_version.specs.VersionOrder.{version_order}
use Rattle.deb_version.proofs.Keys.{version_order-preorder}
use Rattle.universe_model.proofs.Orders.{order-total}
use Rattle.meeting_index.specs.Fitting.{carried_number, carried_order, carried_parts}

pub carried_order-total : IsTotalOrder carried_order
carried_order-total =
    then_total (on_total carried_parts (order-total version_order version_order-preorder)) (on_total carried_number nat_cmp_total)
