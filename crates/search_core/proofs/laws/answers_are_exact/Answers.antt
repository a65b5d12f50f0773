use Rattle.search_core.proofs.Exact.{one_taken, one_answer}
use Rattle.search_core.proofs.laws.answers_are_exact.Goals as goal

pub returns-clause-take : goal.returns-clause-take
returns-clause-take c = one_taken

pub returns-clause-answer : goal.returns-clause-answer
returns-clause-answer c = one_answer
