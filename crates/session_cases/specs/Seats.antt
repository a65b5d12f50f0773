-- What a seat is for.
use Rattle.session_cases.specs.Hands.{IsSeat}
use Rattle.session_cases.specs.declared.seat.Seat.{Seat}

-- its session is over its basis, for its actors, and its job alone is out
abbrev pub Sits : Seat → Type 0
Sits seat = IsSeat seat.basis.problem seat.basis.table seat.actors seat.session seat.job
