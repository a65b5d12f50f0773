use Rattle.std.proofs.Common.{◌++◌, ap, ◌∙◌}
use Rattle.resolver_model.specs.Answers.{Setting}
use Rattle.talk.proofs.Costing.{last_cost}
use Rattle.talk.proofs.turns.reply.Goals as goal

pub say_reply-requires-clause-cost : goal.say_reply-requires-clause-cost
say_reply-requires-clause-cost g c =
    let now = c.answer_alone.new.session in
    let said = c.in-Ok.ensures.said in
    last_cost now.setting c.args.speaker.now.basis.now.problem (c.args.session.now.history ++ said.steps) now.history c.args.command c.in-Ok.said.reply
    (ap (λ (s : Setting). s.problem) c.in-Ok.ensures.setting ∙ c.requires.basis.same_problem) c.history.ensures.legal said.entered
