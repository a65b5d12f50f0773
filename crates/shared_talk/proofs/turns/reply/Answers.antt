use Rattle.std.proofs.Common.{inl, inr, refl, sym, ap, ◌∙◌}
use Rattle.search_core.specs.Sessions.{Session}
use Rattle.shared_talk.proofs.Turning.{entered, placed_after, cost_of, unanswered}
use Rattle.shared_talk.proofs.turns.reply.Goals as goal

pub returns-in_default-clause-replied : goal.returns-in_default-clause-replied
returns-in_default-clause-replied g c = inr (unanswered c.args.pass.now c.answer_through.new.pass c.requires.ready.talker c.in_default.ensures.refused, refl)

pub say_reply-requires-clause-cost : goal.say_reply-requires-clause-cost
say_reply-requires-clause-cost g c =
    cost_of c.args.pass.now c.answer_through.new.pass c.args.speaker.now.basis.now.problem c.args.command c.in-Ok.said c.requires.ready.talker c.in-Ok.ensures.said
    (ap (λ (y : Session). y.setting.problem) (c.in-Ok.ensures.pass.start ∙ c.requires.ready.of_cell.2) ∙ c.requires.basis.same_problem)

pub returns-in-Err-clause-replied : goal.returns-in-Err-clause-replied
returns-in-Err-clause-replied g c =
    let said = c.in-Ok.said in
    inl (said.reply, entered c.args.pass.now c.answer_through.new.pass c.args.command said c.requires.ready.talker c.in-Ok.ensures.said, inr c.in-Err.ensures.said)

pub returns-in-None-clause-replied : goal.returns-in-None-clause-replied
returns-in-None-clause-replied g c =
    let said = c.in-Ok.said in (
      said.reply,
      entered c.args.pass.now c.answer_through.new.pass c.args.command said c.requires.ready.talker c.in-Ok.ensures.said,
      record { told = c.in-Ok-say_reply.ensures.said; ends = sym c.in-None.ensures },
    )

pub returns-in-None-clause-placed : goal.returns-in-None-clause-placed
returns-in-None-clause-placed g c =
    let said = c.in-Ok.said in
    λ alone. placed_after c.args.pass.now c.answer_through.new.pass c.args.command said (record { cursor = said.cursor; deliveries = said.deliveries }) c.requires.ready.talker c.in-Ok.ensures.pass
    c.in-Ok.ensures.said refl refl alone

pub returns-clause-replied : goal.returns-clause-replied
returns-clause-replied g c =
    let said = c.in-Ok.said in
    inl (
      said.reply,
      entered c.args.pass.now c.answer_through.new.pass c.args.command said c.requires.ready.talker c.in-Ok.ensures.said,
      inl (record { told = c.in-Ok-say_reply.ensures.said; ends = sym c.in-Some.ensures }),
    )
