use Rattle.std.proofs.Common.{IsTrue, nat_lt}
use Rattle.std.specs.List.{list_all}
use Rattle.line_bench.proofs.targets.Given as goal

abbrev pub invariant-loop-package : goal.invariant-loop-package
invariant-loop-package l = IsTrue (list_all (λ v. nat_lt v l.count) l.set)
