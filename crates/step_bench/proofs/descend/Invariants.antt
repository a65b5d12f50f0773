use Rattle.std.proofs.Common.{◌≡◌}
use Rattle.broken_deps.specs.Opening.{open_deps}
use Rattle.step_bench.proofs.descend.Given as goal

abbrev pub invariant-loop : goal.invariant-loop
invariant-loop l = l.place.list ≡ open_deps l.problem l.place.set
