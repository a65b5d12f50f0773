use Rattle.std.proofs.Common.{◌≡◌}
use Rattle.search_core.specs.Climbs.{IsAt, height}
use Rattle.search_core.proofs.learning.go_up.Given as goal

abbrev pub invariant-loop-climb : goal.invariant-loop-climb
invariant-loop-climb l = record {
  at : IsAt l.ledger.setting l.ledger.history l.learned l.climb;
  start_is : l.climb.start ≡ l.fn.start;
}

abbrev pub decreases-loop-climb : goal.decreases-loop-climb
decreases-loop-climb l = height l.climb.next
