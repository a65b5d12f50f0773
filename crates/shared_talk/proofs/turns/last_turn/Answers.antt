-- What the last prompt makes of the run.
use Rattle.std.proofs.Common.{ℕ, List, subst, arith}
use Rattle.talk.specs.Transcripts.{Script, script_of}
use Rattle.talk.specs.Ends.{Scene}
use Rattle.talk.specs.Runs.{IsWritten}
use Rattle.talk.specs.Turns.{IsUnsaid}
use Rattle.talk.proofs.Running.{out_unprompted, out_lineless, out_too_many}
use Rattle.shared_talk.proofs.Turning.{asked}
use Rattle.shared_talk.proofs.turns.last_turn.Goals as goal

pub returns-in-Err : goal.returns-in-Err
returns-in-Err g c alone =
    let s : Script = script_of c.args.speaker.now in
    let now : Scene = record { history = c.args.pass.now.hand.made; input = g.I.Source.state c.args.input.now; out = g.O.Sink.state c.args.out.now } in
    let mid = g.O.Sink.state c.say_prompt.new.out in
    let is = asked c.args.place.now c.args.pass.now c.requires.placed alone in
    let U : List ℕ → Type 0 = λ t. IsUnsaid t now.out mid c.in-Err.status in
    out_unprompted s c.in-Err.status c.args.lines.now c.args.reader.now now mid (omega (arith, c.requires.full)) (subst U is c.in-Err.ensures.said) c.in-Err.ensures.later

pub returns-in-Ok-hear : goal.returns-in-Ok-hear
returns-in-Ok-hear g c alone =
    let s : Script = script_of c.args.speaker.now in
    let now : Scene = record { history = c.args.pass.now.hand.made; input = g.I.Source.state c.args.input.now; out = g.O.Sink.state c.args.out.now } in
    let mid = g.O.Sink.state c.say_prompt.new.out in
    let is = asked c.args.place.now c.args.pass.now c.requires.placed alone in
    let W : List ℕ → Type 0 = λ t. IsWritten now.out mid t in
    out_too_many s c.args.lines.now c.args.reader.now c.hear.new.reader now c.in-Ok-hear.field-0 (g.I.Source.state c.hear.new.input) mid c.requires.full (subst W is c.in-Ok.ensures.said) c.in-Ok.ensures.later
    c.in-Ok-hear.ensures.heard c.in-Ok-hear.ensures.budget c.in-Ok-hear.ensures.later

pub returns-in-Err-hear : goal.returns-in-Err-hear
returns-in-Err-hear g c alone =
    let s : Script = script_of c.args.speaker.now in
    let now : Scene = record { history = c.args.pass.now.hand.made; input = g.I.Source.state c.args.input.now; out = g.O.Sink.state c.args.out.now } in
    let mid = g.O.Sink.state c.say_prompt.new.out in
    let is = asked c.args.place.now c.args.pass.now c.requires.placed alone in
    let W : List ℕ → Type 0 = λ t. IsWritten now.out mid t in
    out_lineless s c.in-Err-hear.status c.args.lines.now c.args.reader.now now (g.I.Source.state c.hear.new.input) mid (omega (arith, c.requires.full)) (subst W is c.in-Ok.ensures.said) c.in-Ok.ensures.later
    c.in-Err-hear.ensures.heard c.in-Err-hear.ensures.budget c.in-Err-hear.ensures.later
