use Rattle.std.proofs.Common.{IsTrue}
use Rattle.resolver_model.specs.Problems.{is_choice_set}
use Rattle.line_bench.proofs.set_of.Given as goal

abbrev pub invariant-loop-place : goal.invariant-loop-place
invariant-loop-place l = IsTrue (is_choice_set l.problem l.set)
