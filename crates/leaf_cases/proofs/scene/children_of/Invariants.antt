use Rattle.frontier.specs.Stores.{AreCosted}
use Rattle.leaf_cases.proofs.scene.children_of.Given as goal

abbrev pub invariant-loop-node : goal.invariant-loop-node
invariant-loop-node l = (goal.iterator-loop-node).can_next l.node-iterator × (goal.iterator-loop-node).is_finite l.node-iterator × AreCosted l.basis.table l.children
