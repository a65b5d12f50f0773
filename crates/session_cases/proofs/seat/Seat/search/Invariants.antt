use Rattle.session_cases.specs.Seats.{Sits}
use Rattle.session_cases.proofs.seat.Seat.search.Given as goal

abbrev pub invariant-loop-steps : goal.invariant-loop-steps
invariant-loop-steps l = Sits l.self
