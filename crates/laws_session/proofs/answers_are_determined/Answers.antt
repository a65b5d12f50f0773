use Rattle.laws_session.proofs.Answers.{IsAnsweredOnce-all}
use Rattle.laws_session.proofs.answers_are_determined.Goals as goal

pub returns : goal.returns
returns c = IsAnsweredOnce-all
