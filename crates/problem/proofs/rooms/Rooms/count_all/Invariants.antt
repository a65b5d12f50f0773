use Rattle.problem.proofs.Counting.{IsCountedSoFar}
use Rattle.problem.proofs.rooms.Rooms.count_all.Given as goal

abbrev pub invariant-loop-number : goal.invariant-loop-number
invariant-loop-number l = IsCountedSoFar l.initial.self l.self l.numbers l.number-index
