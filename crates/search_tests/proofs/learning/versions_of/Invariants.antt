use Rattle.std.proofs.Common.{IsTrue, nat_lt}
use Rattle.std.specs.List.{list_all}
use Rattle.search_tests.proofs.learning.versions_of.Given as goal

abbrev pub invariant-loop-item : goal.invariant-loop-item
invariant-loop-item l = IsTrue (list_all (λ v. nat_lt v l.count) l.set)
