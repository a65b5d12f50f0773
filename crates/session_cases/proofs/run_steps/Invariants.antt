use Rattle.session_cases.specs.Seats.{Sits}
use Rattle.session_cases.proofs.run_steps.Given as goal

abbrev pub invariant-loop-line : goal.invariant-loop-line
invariant-loop-line g l = Sits l.seat
