use Rattle.std.proofs.Common.{◌≡◌, ◌-◌, ◌≤◌, length}
use Rattle.apt_base.proofs.Reading.{HasRead}
use Rattle.apt_base.proofs.whole.read_open.Given as goal

abbrev pub invariant-loop-bytes : goal.invariant-loop-bytes
invariant-loop-bytes g l =
    HasRead (g.F.Shelf.state l.initial.shelf) l.bytes.items (g.F.Shelf.state l.shelf) × (length l.bytes.items ≤ l.limit) × (length l.piece ≡ 65536)

abbrev pub decreases-loop-bytes : goal.decreases-loop-bytes
decreases-loop-bytes g l = l.limit - length l.bytes.items
