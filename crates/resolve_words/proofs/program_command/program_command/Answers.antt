use Rattle.std.proofs.Common.{◌∙◌, ap₂}
use Rattle.std.proofs.lemmas.Result.{IfOk-weaker}
use Rattle.clap.specs.Words.{with_rule}
use Rattle.resolve_words.specs.ProgramCommand.{command}
use Rattle.resolve_words.proofs.program_command.program_command.Goals as goal

pub returns : goal.returns
unfolding command
returns c =
    let one = c.in_ok-command.ensures ∙ ap₂ with_rule c.bare.ensures c.option.ensures.rule in
    let two = c.in_ok-command-2.ensures ∙ ap₂ with_rule one c.option-2.ensures.rule in
    let three = c.in_ok-command-3.ensures ∙ ap₂ with_rule two c.option-3.ensures.rule in
    let four = c.in_ok-command-4.ensures ∙ ap₂ with_rule three c.option-4.ensures.rule in
    let five = c.in_ok-command-5.ensures ∙ ap₂ with_rule four c.option_or.ensures.rule in
    let six = c.in_ok-command-6.ensures ∙ ap₂ with_rule five c.option_or-2.ensures.rule in
    let seven = c.in_ok-command-7.ensures ∙ ap₂ with_rule six c.number_or.ensures.rule in
    let eight = c.in_ok-command-8.ensures ∙ ap₂ with_rule seven c.number_or-2.ensures.rule in
    IfOk-weaker c.with-9.result _ _ (λ last is. is ∙ ap₂ with_rule eight c.further.ensures.rule) c.with-9.ensures
