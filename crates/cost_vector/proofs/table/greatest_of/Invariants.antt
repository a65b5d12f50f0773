use Rattle.std.proofs.Common.{◌≡◌, max, map, take, slice_index}
use Rattle.std.specs.List.{fold}
use Rattle.cost_vector.proofs.table.greatest_of.Given as goal

abbrev pub invariant-loop-choice : goal.invariant-loop-choice
invariant-loop-choice l = l.most ≡ fold max 0 (map (slice_index l.amounts) (take l.choice-index l.set))
