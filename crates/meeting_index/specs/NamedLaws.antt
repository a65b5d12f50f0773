-- The order of names with numbers is total.
use Rattle.std.specs.Cmp.{IsTotalOrder, nat_cmp_total, on_total, then_total}
use Rattle.std.specs.Cmp.Lexicographic.{nat_list_cmp_total}
use Rattle.meeting_index.specs.Named.{named_bytes, named_hash, named_order}

pub named_order-total : IsTotalOrder named_order
named_order-total = then_total (on_total named_hash nat_cmp_total) (on_total named_bytes nat_list_cmp_total)
