use Rattle.std.proofs.Common.{◌≡◌, []}
use Rattle.case_problems.proofs.packages.add_packages.Given as goal

abbrev pub invariant-loop-package : goal.invariant-loop-package
invariant-loop-package l = l.builder.dependencies ≡ []
