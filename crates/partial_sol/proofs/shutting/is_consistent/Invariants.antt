use Rattle.std.proofs.Common.{◌≡◌, drop}
use Rattle.resolver_model.specs.Problems.{is_consistent}
use Rattle.partial_sol.proofs.shutting.is_consistent.Given as goal

abbrev pub invariant-loop-place : goal.invariant-loop-place
invariant-loop-place l = is_consistent l.problem l.items ≡ is_consistent l.problem (drop l.place l.items)
