use Rattle.laws_session.proofs.Free.{AreFreeOfSchedule-all}
use Rattle.laws_session.proofs.answers_are_free_of_schedule.Goals as goal

pub returns : goal.returns
returns c = AreFreeOfSchedule-all
