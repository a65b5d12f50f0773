use Rattle.laws_session.proofs.Longer.{IsLegal-none, IsLegal-more}
use Rattle.laws_session.proofs.histories_grow.Goals as goal

pub returns-clause-first : goal.returns-clause-first
returns-clause-first c = IsLegal-none

pub returns-clause-more : goal.returns-clause-more
returns-clause-more c = IsLegal-more
