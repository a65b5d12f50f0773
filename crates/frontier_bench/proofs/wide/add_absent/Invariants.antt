use Rattle.std.proofs.Common.{◌≡◌, []}
use Rattle.frontier_bench.proofs.wide.add_absent.Given as goal

abbrev pub invariant-loop-package : goal.invariant-loop-package
invariant-loop-package l = l.builder.dependencies ≡ []
