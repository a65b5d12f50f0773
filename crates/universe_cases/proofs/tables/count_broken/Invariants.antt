use Rattle.std.proofs.Common.{◌≤◌}
use Rattle.universe_cases.proofs.tables.count_broken.Given as goal

abbrev pub invariant-loop-dep : goal.invariant-loop-dep
invariant-loop-dep l = l.count ≤ l.dep
