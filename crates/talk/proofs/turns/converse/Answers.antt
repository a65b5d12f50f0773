use Rattle.std.proofs.Common.{ℕ, sym, subst, ◌∙◌, ap, arith}
use Rattle.resolver_model.specs.Answers.{Setting}
use Rattle.talk.specs.Transcripts.{Script, script_of}
use Rattle.talk.specs.Ends.{Scene}
use Rattle.talk.specs.Runs.{IsOver}
use Rattle.talk.proofs.Running.{over_ungreeted}
use Rattle.talk.proofs.turns.converse.Goals as goal

pub returns-in-Err-clause-over : goal.returns-in-Err-clause-over
returns-in-Err-clause-over g c =
    let s : Script = script_of c.args.speaker.now in
    let first : Scene = record { history = c.args.session.now.history; input = g.I.Source.state c.args.input.now; out = g.O.Sink.state c.args.out.now } in
    let new : Scene = record { history = c.args.session.now.history; input = g.I.Source.state c.args.input.now; out = g.O.Sink.state c.begin.new.out } in
    let N : ℕ → Type 0 = λ n. IsOver s c.in-Err.status n first new in
    subst N (sym c.requires.no_line) (over_ungreeted s c.in-Err.status first new.out c.requires.no_entry c.in-Err.ensures.begun c.in-Err.ensures.later)

pub returns-in-Err-turn-clause-over : goal.returns-in-Err-turn-clause-over
returns-in-Err-turn-clause-over g c =
    let first : Scene = record { history = c.args.session.now.history; input = g.I.Source.state c.args.input.now; out = g.O.Sink.state c.args.out.now } in
    c.in-Err-turn.ensures.goes_out first c.loop.invariant.so_far

pub returns-clause-over : goal.returns-clause-over
returns-clause-over g c =
    let first : Scene = record { history = c.args.session.now.history; input = g.I.Source.state c.args.input.now; out = g.O.Sink.state c.args.out.now } in
    c.last_turn.ensures first c.loop.invariant.so_far

pub loop-preserved : goal.loop-preserved
loop-preserved g c =
    let first : Scene = record { history = c.args.session.now.history; input = g.I.Source.state c.args.input.now; out = g.O.Sink.state c.args.out.now } in
    let turn = c.in-Ok-turn.ensures in
    record {
      setting = turn.setting ∙ c.loop.invariant.setting;
      same = record {
        same_problem = ap (λ (t : Setting). t.problem) turn.setting ∙ c.loop.invariant.same.same_problem;
        same_table = ap (λ (t : Setting). t.table) turn.setting ∙ c.loop.invariant.same.same_table;
      };
      alone = turn.alone;
      count = omega (arith, turn.count, c.loop.invariant.count);
      cursor = turn.cursor;
      deliveries = turn.deliveries;
      so_far = turn.goes_on first c.loop.invariant.so_far;
    }
