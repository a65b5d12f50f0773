use Rattle.laws_session.proofs.Fitting.{DoLinesFit-legal}
use Rattle.laws_session.proofs.lines_fit_the_table.Goals as goal

pub returns : goal.returns
returns c = DoLinesFit-legal
