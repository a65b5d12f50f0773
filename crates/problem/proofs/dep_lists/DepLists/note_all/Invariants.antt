use Rattle.problem.proofs.Filling.{IsNotedSoFar}
use Rattle.problem.proofs.dep_lists.DepLists.note_all.Given as goal

abbrev pub invariant-loop-number : goal.invariant-loop-number
invariant-loop-number l = IsNotedSoFar l.dep l.initial.self l.self l.numbers l.number-index
