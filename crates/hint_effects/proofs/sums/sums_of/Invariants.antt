use Rattle.std.proofs.Common.{take}
use Rattle.hint_effects.specs.Sums.{AreSums}
use Rattle.hint_effects.proofs.sums.sums_of.Given as goal

abbrev pub invariant-loop-hint : goal.invariant-loop-hint
invariant-loop-hint l = AreSums (take l.hint-index l.hints) l.cost_name l.sums
