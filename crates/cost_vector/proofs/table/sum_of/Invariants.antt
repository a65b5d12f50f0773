use Rattle.std.proofs.Common.{◌≡◌, ◌≤◌, ◌*◌, ◌-◌, ◌^◌, take, slice_index}
use Rattle.std.specs.List.{sum_by}
use Rattle.cost_vector.proofs.table.sum_of.Given as goal

abbrev pub invariant-loop-choice : goal.invariant-loop-choice
invariant-loop-choice l = (l.total ≡ sum_by (slice_index l.amounts) (take l.choice-index l.set)) × (l.total ≤ l.choice-index * (2 ^ 32 - 1))
