use Rattle.std.proofs.Common.{◌≡◌}
use Rattle.lists.specs.Below.{below}
use Rattle.universe.proofs.order.numbers_below.Given as goal

abbrev pub invariant-loop-number : goal.invariant-loop-number
invariant-loop-number l = l.numbers.items ≡ below l.number
