use Rattle.std.proofs.Common.{◌≡◌, []}
use Rattle.line_bench.proofs.add_packages.Given as goal

abbrev pub invariant-loop-package : goal.invariant-loop-package
invariant-loop-package l = l.builder.dependencies ≡ []
