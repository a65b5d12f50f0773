use Rattle.std.proofs.Common.{◌≡◌, ◌≤◌, length}
use Rattle.frontier.specs.Ladders.{ArePlaces}
use Rattle.frontier.proofs.Ladders.{IsRightFrom}
use Rattle.frontier.proofs.ladder.rebuild.Given as goal

abbrev pub invariant-loop-place : goal.invariant-loop-place
invariant-loop-place l = (l.place ≤ length l.slots) × (length l.bests.items ≡ length l.slots) × ArePlaces (length l.slots) l.bests.items × IsRightFrom l.lines l.slots l.bests.items l.place

abbrev pub decreases-loop-place : goal.decreases-loop-place
decreases-loop-place l = l.place
