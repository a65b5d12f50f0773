use Rattle.std.proofs.Common.{◌≡◌}
use Rattle.hint_effects.specs.Stamped.{marked_upto}
use Rattle.hint_effects.proofs.marking.marked.Given as goal

-- the choices so far that have the mark
abbrev pub invariant-loop-choice : goal.invariant-loop-choice
invariant-loop-choice l = l.list.items ≡ marked_upto l.problem l.hints l.mark l.choice
