use Rattle.resolver_model.specs.declared.history.By.TheVariants.{Dep}
use Rattle.laws_session.proofs.Climbing.{LearnsFrom-climb}
use Rattle.laws_session.proofs.climbs_learn_upwards.Goals as goal

pub returns : goal.returns
returns c s history actor leaf d lines = LearnsFrom-climb s history actor leaf (Dep d) lines
