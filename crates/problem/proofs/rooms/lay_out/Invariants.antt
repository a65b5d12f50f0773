use Rattle.problem.proofs.Laying.{IsLaidTo}
use Rattle.problem.proofs.rooms.lay_out.Given as goal

abbrev pub invariant-loop-number : goal.invariant-loop-number
invariant-loop-number l = IsLaidTo l.initial.spans.items l.spans.items l.number l.end
