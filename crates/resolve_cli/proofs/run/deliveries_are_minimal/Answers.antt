use Rattle.resolve_cli.specs.Beside.{setting_beside}
use Rattle.resolve_cli.specs.Reports.{setting_in}
use Rattle.resolve_cli.specs.Words.{settings_in}
use Rattle.resolve_cli.proofs.Enumerated.{legal_before}
use Rattle.resolver_model.specs.declared.history.Command.TheVariants.{Next}
use Rattle.resolver_model.specs.declared.history.Entry.TheVariants.{Say}
use Rattle.resolver_model.specs.declared.history.Reply.TheVariants.{NoMore}
use Rattle.resolve_cli.proofs.run.deliveries_are_minimal.Goals as goal

pub returns-clause-alone : goal.returns-clause-alone
returns-clause-alone c words old new r run before actor after is without =
    let s = setting_in (settings_in words) run.texts in
    let more = Say actor Next NoMore in
    c.minimal_solutions_come_in_turn.ensures.all s before actor (legal_before s r.history.items before more after run.spoken.legal is) without (run.spoken.legal before more after is)

pub returns-clause-beside : goal.returns-clause-beside
returns-clause-beside c words old new r run before actor after is without =
    let s = setting_beside (settings_in words) run.texts in
    let more = Say actor Next NoMore in
    c.minimal_solutions_come_in_turn.ensures.all s before actor (legal_before s r.history.items before more after run.spoken.legal is) without (run.spoken.legal before more after is)
