use Rattle.std.proofs.Common.{IsTrue}
use Rattle.resolver_model.specs.Problems.{is_choice_set}
use Rattle.search_tests.proofs.learning.set_of.Given as goal

abbrev pub invariant-loop-item : goal.invariant-loop-item
invariant-loop-item l = IsTrue (is_choice_set l.problem l.set)
