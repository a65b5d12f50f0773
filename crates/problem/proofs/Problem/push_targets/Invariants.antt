use Rattle.std.proofs.Common.{◌≡◌, ◌++◌, ◌&&◌, nat_lt, nat_le, take}
use Rattle.std.specs.List.{filter}
use Rattle.problem.specs.Resolving.{is_free_install}
use Rattle.problem.proofs.Problem.push_targets.Given as goal

abbrev pub invariant-loop-target : goal.invariant-loop-target
invariant-loop-target l =
    l.list.items ≡ l.initial.list.items ++ filter (λ c. nat_le l.first c && nat_lt c l.end && is_free_install l.self l.set c) (take l.target-index l.target-items)
