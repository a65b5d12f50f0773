use Rattle.frontier.specs.Stores.{AreCosted}
use Rattle.frontier_bench.proofs.wide.children.Given as goal

abbrev pub invariant-loop-number : goal.invariant-loop-number
invariant-loop-number l = AreCosted l.table l.children
