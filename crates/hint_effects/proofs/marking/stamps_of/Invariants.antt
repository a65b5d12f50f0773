use Rattle.std.proofs.Common.{take}
use Rattle.hint_effects.specs.Stamped.{AreStamps}
use Rattle.hint_effects.proofs.marking.stamps_of.Given as goal

abbrev pub invariant-loop-place : goal.invariant-loop-place
invariant-loop-place l = AreStamps l.hints (take l.place l.hints) l.stamps
