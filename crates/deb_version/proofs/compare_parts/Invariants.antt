use Rattle.std.proofs.Common.{◌≡◌, ◌+◌, length}
use Rattle.deb_version.specs.VersionOrder.{part_order}
use Rattle.deb_version.proofs.compare_parts.Given as goal

abbrev pub invariant-loop-a : goal.invariant-loop-a
invariant-loop-a l = part_order l.a l.b ≡ part_order l.fn.first l.fn.second

abbrev pub decreases-loop-a : goal.decreases-loop-a
decreases-loop-a l = length l.a + length l.b
