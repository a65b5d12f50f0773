-- What is left in order is of what was found.
use Rattle.meeting_index.proofs.members.members.Goals as goal

pub returns-clause-real : goal.returns-clause-real
returns-clause-real c = λ y there. c.in_ok-list.ensures.real y (c.put_in_order.ensures.part y there)
