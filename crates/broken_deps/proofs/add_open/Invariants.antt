use Rattle.std.proofs.Common.{◌≡◌, ◌++◌, take}
use Rattle.std.specs.List.{filter}
use Rattle.resolver_model.specs.Problems.{is_open}
use Rattle.broken_deps.proofs.add_open.Given as goal

abbrev pub invariant-loop-dep : goal.invariant-loop-dep
invariant-loop-dep l = l.list.items ≡ l.initial.list.items ++ filter (is_open l.installed.problem.now l.installed.set.now) (take l.dep-index l.deps)
