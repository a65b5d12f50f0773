use Rattle.std.proofs.Common.{◌≡◌, []}
use Rattle.std.specs.List.{filter}
use Rattle.lists.specs.Below.{below}
use Rattle.resolver_model.specs.Problems.{is_broken}
use Rattle.problem.proofs.parts.Parts.broken_at_start.Given as goal

abbrev pub invariant-loop-dep : goal.invariant-loop-dep
invariant-loop-dep l = l.list.items ≡ filter (is_broken l.self []) (below l.dep)
