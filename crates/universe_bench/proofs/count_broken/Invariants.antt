use Rattle.std.proofs.Common.{◌≤◌}
use Rattle.universe_bench.proofs.count_broken.Given as goal

abbrev pub invariant-loop-dep : goal.invariant-loop-dep
invariant-loop-dep l = l.count ≤ l.dep
