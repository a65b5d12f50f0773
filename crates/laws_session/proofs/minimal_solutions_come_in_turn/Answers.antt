use Rattle.laws_session.proofs.Turns.{AreFirstInTurn-legal, AreMinimalSolutions-legal}
use Rattle.laws_session.proofs.minimal_solutions_come_in_turn.Goals as goal

pub returns-clause-turn : goal.returns-clause-turn
returns-clause-turn c = AreFirstInTurn-legal

pub returns-clause-all : goal.returns-clause-all
returns-clause-all c = AreMinimalSolutions-legal
