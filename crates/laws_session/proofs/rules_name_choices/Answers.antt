use Rattle.laws_session.proofs.Marks.{AreRulesFor-legal}
use Rattle.laws_session.proofs.rules_name_choices.Goals as goal

pub returns : goal.returns
returns c = AreRulesFor-legal
