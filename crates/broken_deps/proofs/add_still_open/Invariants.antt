use Rattle.std.proofs.Common.{◌≡◌, ◌++◌, take}
use Rattle.std.specs.List.{filter}
use Rattle.broken_deps.specs.Opening.{stays_open}
use Rattle.broken_deps.proofs.add_still_open.Given as goal

abbrev pub invariant-loop-dep : goal.invariant-loop-dep
invariant-loop-dep l = l.list.items ≡ l.initial.list.items ++ filter (stays_open l.problem l.larger l.choice) (take l.dep-index l.deps)
