use Rattle.std.proofs.Common.{◌≡◌, ◌≤◌, ◌*◌, ◌^◌, take, length}
use Rattle.std.specs.List.{sum_by}
use Rattle.search_core.proofs.telling.count_choices.Given as goal

abbrev pub invariant-loop-set : goal.invariant-loop-set
invariant-loop-set l = (l.total ≡ sum_by length (take l.set-index l.sets)) × (l.total ≤ l.set-index * 2 ^ 64)
