-- What the turns make of the whole run.
use Rattle.std.proofs.Common.{[], ◌+◌, ℕ, refl, sym, ap, ◌∙◌}
use Rattle.talk.specs.Transcripts.{Script, script_of}
use Rattle.talk.specs.Ends.{Scene}
use Rattle.shared_talk.proofs.Turning.{alone_before, further_none, further_twice, placed_first, so_far_first, over_first}
use Rattle.shared_talk.proofs.Working.{rest_worked, worked_further, all_can}
use Rattle.shared_talk.proofs.rounds.converse_shared.Goals as goal

pub returns-in-Err-clause-workers : goal.returns-in-Err-clause-workers
returns-in-Err-clause-workers g c = rest_worked c.args.cell.now c.args.workers.now c.requires.workers

pub returns-in-Err-clause-over : goal.returns-in-Err-clause-over
returns-in-Err-clause-over g c alone =
    let s : Script = script_of c.args.speaker.now in
    let first : Scene = record { history = []; input = g.I.Source.state c.args.input.now; out = g.O.Sink.state c.args.out.now } in
    over_first s c.in-Err.status first c.args.lines.now c.args.talker.now.hand.made (g.O.Sink.state c.begin.new.out) refl c.requires.no_line c.requires.no_entry c.in-Err.ensures.begun c.in-Err.ensures.later

pub loop-init : goal.loop-init
loop-init g c =
    let s : Script = script_of c.args.speaker.now in
    let first : Scene = record { history = []; input = g.I.Source.state c.args.input.now; out = g.O.Sink.state c.args.out.now } in
    let talker = c.args.talker.now in
    record {
      further = further_none talker;
      ready = c.requires.ready;
      stop = c.requires.stop ∙ sym c.requires.no_line;
      count = c.requires.no_line;
      placed = placed_first talker c.requires.no_entry;
      can = c.requires.workers;
      worked = rest_worked c.args.cell.now c.args.workers.now c.requires.workers;
      so_far = λ alone. so_far_first s first c.args.lines.now c.in-Ok.reader talker.hand.made (g.O.Sink.state c.begin.new.out) refl c.requires.no_line c.in-Ok.ensures.begun.0 c.requires.no_entry c.in-Ok.ensures.begun.1
          c.in-Ok.ensures.later;
    }

pub returns-in-Err-turn_beside-clause-workers : goal.returns-in-Err-turn_beside-clause-workers
returns-in-Err-turn_beside-clause-workers g c =
    worked_further c.args.workers.now c.loop.workers c.turn_beside.new.workers c.loop.invariant.worked c.in-Err-turn_beside.ensures.workers

pub returns-in-Err-turn_beside-clause-over : goal.returns-in-Err-turn_beside-clause-over
returns-in-Err-turn_beside-clause-over g c alone =
    let first : Scene = record { history = []; input = g.I.Source.state c.args.input.now; out = g.O.Sink.state c.args.out.now } in
    let taken = c.in-Err-turn_beside.ensures.taken in
    taken.goes_out alone first (c.loop.invariant.so_far (alone_before c.loop.talker.hand.seen c.turn_beside.new.talker.hand.seen taken.further.begins alone))

pub loop-preserved : goal.loop-preserved
loop-preserved g c =
    let first : Scene = record { history = []; input = g.I.Source.state c.args.input.now; out = g.O.Sink.state c.args.out.now } in
    let loop = c.loop.invariant in
    let turn = c.in-Ok-turn_beside.ensures in
    let taken = turn.taken in
    record {
      further = further_twice c.args.talker.now c.loop.talker c.turn_beside.new.talker loop.further taken.further;
      ready = taken.ready;
      stop = turn.stop ∙ sym taken.count;
      count = taken.count ∙ ap (λ (n : ℕ). n + 1) loop.count;
      placed = taken.placed;
      can = all_can c.args.cell.now c.loop.workers c.turn_beside.new.workers turn.workers loop.can;
      worked = worked_further c.args.workers.now c.loop.workers c.turn_beside.new.workers loop.worked turn.workers;
      so_far = λ alone. taken.goes_on alone first (loop.so_far (alone_before c.loop.talker.hand.seen c.turn_beside.new.talker.hand.seen taken.further.begins alone));
    }
