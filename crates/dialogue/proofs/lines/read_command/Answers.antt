use Rattle.std.proofs.Common.{sym, subst}
use Rattle.resolver_model.specs.Answers.{NamesChoice}
use Rattle.dialogue.proofs.Naming.{line-names}
use Rattle.dialogue.proofs.lines.read_command.Goals as goal

pub returns-clause-choice : goal.returns-clause-choice
returns-clause-choice c =
    let p = c.args.problem.now in
    subst (NamesChoice p) (sym c.command_of.ensures) (line-names c.args.universe.now p c.requires c.args.line.now)
