use Rattle.std.proofs.Common.{◌≡◌, ◌≤◌, nat_lt, take}
use Rattle.std.specs.List.{count_by}
use Rattle.problem.proofs.parts.count_below.Given as goal

abbrev pub invariant-loop-number : goal.invariant-loop-number
invariant-loop-number l = (l.count ≡ count_by (λ n. nat_lt n l.first) (take l.number-index l.numbers)) × (l.count ≤ l.number-index)
