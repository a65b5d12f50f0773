use Rattle.std.proofs.Common.{[], rules}
use Rattle.talk.specs.Transcripts.{script_of}
use Rattle.talk.specs.Ends.{Scene}
use Rattle.shared_talk.proofs.Closing.{closed, held_by}
use Rattle.shared_talk.proofs.rounds.converse_and_close.Goals as goal

pub returns-clause-over : goal.returns-clause-over
returns-clause-over g c =
    let old : Scene = record { history = []; input = g.I.Source.state c.args.input.now; out = g.O.Sink.state c.args.out.now } in
    let spoken = c.speak_first-status in
    closed c.args.cell c.close-session.result.setting (script_of c.args.speaker.now) spoken.result spoken.new.lines old spoken.new.passes (g.I.Source.state spoken.new.input) (g.O.Sink.state spoken.new.out)
    c.close-session.result.history c.close-session.ensures.setting c.history.ensures.legal (held_by _ _ _ _ c.close-session.ensures.hands (search rules)) spoken.ensures.done spoken.ensures.spoken
