use Rattle.std.proofs.Common.{◌≡◌, take, false}
use Rattle.std.specs.List.{list_any}
use Rattle.broken_deps.specs.Opening.{stays_open}
use Rattle.broken_deps.proofs.is_any_still_open.Given as goal

abbrev pub invariant-loop-dep : goal.invariant-loop-dep
invariant-loop-dep l = list_any (stays_open l.problem l.larger l.choice) (take l.dep-index l.deps) ≡ false
