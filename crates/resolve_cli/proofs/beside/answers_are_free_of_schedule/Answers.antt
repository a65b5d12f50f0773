use Rattle.resolve_cli.specs.Beside.{setting_beside}
use Rattle.resolve_cli.specs.Words.{settings_in}
use Rattle.resolver_model.specs.declared.history.Entry.TheVariants.{Say}
use Rattle.resolve_cli.proofs.beside.answers_are_free_of_schedule.Goals as goal

pub returns-clause-step : goal.returns-clause-step
returns-clause-step c words others old new first last r q run other same before after front back actor mate command reply answer cut cut_too alike tells tells_too =
    c.answers_are_free_of_schedule.ensures (setting_beside (settings_in words) run.texts) (setting_beside (settings_in others) other.texts) same
    before front actor mate command reply answer alike
    (run.spoken.legal before (Say actor command reply) after cut)
    (other.spoken.legal front (Say mate command answer) back cut_too) tells tells_too

pub returns-clause-whole : goal.returns-clause-whole
returns-clause-whole c words others old new first last r q run other same =
    c.histories_are_answered_alike.ensures (setting_beside (settings_in words) run.texts) (setting_beside (settings_in others) other.texts) same
    r.history.items q.history.items run.spoken.legal other.spoken.legal
