use Rattle.std.proofs.Common.{◌≡◌}
use Rattle.resolver_model.specs.Histories.{cursor_at}
use Rattle.resolver_model.specs.Answers.{delivery_count}
use Rattle.search_core.specs.Sessions.{IsFor}
use Rattle.lone_search.specs.Answers.{IsAlone}
use Rattle.talk.specs.Transcripts.{script_of}
use Rattle.talk.specs.Turns.{IsSoFar}
use Rattle.talk.proofs.turns.converse.Given as goal

abbrev pub invariant-loop : goal.invariant-loop
invariant-loop g l =
    let input = g.I.Source.state in
    let out = g.O.Sink.state in
    record {
      setting : l.session.setting ≡ l.fn.session.setting;
      same : IsFor l.session l.speaker.basis.now.problem l.speaker.basis.now.table;
      alone : IsAlone l.session.setting l.session.history;
      count : l.lines ≡ l.counter;
      cursor : l.place.cursor ≡ cursor_at l.session.history;
      deliveries : l.place.deliveries ≡ delivery_count l.session.history;
      so_far : IsSoFar (script_of l.speaker) l.lines l.reader
          (record { history = l.fn.session.history; input = input l.fn.input; out = out l.fn.out })
          (record { history = l.session.history; input = input l.input; out = out l.out });
    }
