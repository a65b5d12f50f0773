use Rattle.std.proofs.Common.{◌≡◌, []}
use Rattle.std.specs.Prelude.{All}
use Rattle.std.specs.List.{AllZip}
use Rattle.search_thread.specs.Slices.{CanWork}
use Rattle.talk.specs.Transcripts.{script_of}
use Rattle.talk.specs.Turns.{IsSoFar}
use Rattle.shared_talk.specs.Shared.{IsTalkerAlone}
use Rattle.shared_talk.specs.Turns.{CanAnswer, IsPlaced, IsFurther, HasWorked}
use Rattle.shared_talk.proofs.rounds.converse_shared.Given as goal

abbrev pub invariant-loop : goal.invariant-loop
invariant-loop g l =
    let input = g.I.Source.state in
    let out = g.O.Sink.state in
    record {
      further : IsFurther l.fn.talker l.talker;
      ready : CanAnswer l.cell l.talker;
      stop : l.talker.stop ≡ l.lines;
      count : l.lines ≡ l.counter;
      placed : IsPlaced l.place l.talker;
      can : All (CanWork l.cell) l.workers;
      worked : AllZip HasWorked l.fn.workers l.workers;
      so_far : IsTalkerAlone l.talker.hand.seen → IsSoFar (script_of l.speaker) l.lines l.reader
          (record { history = []; input = input l.fn.input; out = out l.fn.out })
          (record { history = l.talker.hand.made; input = input l.input; out = out l.out });
    }
