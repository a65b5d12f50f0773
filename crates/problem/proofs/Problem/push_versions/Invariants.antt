use Rattle.std.proofs.Common.{◌≡◌, ◌++◌}
use Rattle.problem.specs.Resolving.{free_versions}
use Rattle.problem.proofs.Problem.push_versions.Given as goal

abbrev pub invariant-loop-version : goal.invariant-loop-version
invariant-loop-version l = l.list.items ≡ l.initial.list.items ++ free_versions l.self l.set l.first l.version
