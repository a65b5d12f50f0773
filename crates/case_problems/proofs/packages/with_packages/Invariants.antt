use Rattle.std.proofs.Common.{◌≡◌, []}
use Rattle.case_problems.proofs.packages.with_packages.Given as goal

abbrev pub invariant-loop-line : goal.invariant-loop-line
invariant-loop-line l = l.builder.dependencies ≡ []
