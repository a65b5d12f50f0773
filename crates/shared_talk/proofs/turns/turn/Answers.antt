-- What each of a turn's ends makes of the run.
use Rattle.std.proofs.Common.{ℕ, List, Ok, subst, arith}
use Rattle.talk.specs.Transcripts.{Script, script_of}
use Rattle.talk.specs.Ends.{Scene}
use Rattle.talk.specs.Runs.{IsWritten}
use Rattle.talk.specs.Turns.{IsUnsaid}
use Rattle.talk.proofs.Running.{out_unprompted, out_lineless, after_reply, after_reply_out}
use Rattle.shared_talk.proofs.Turning.{alone_before, asked}
use Rattle.shared_talk.proofs.turns.turn.Goals as goal

pub returns-in-Err-clause-goes_out : goal.returns-in-Err-clause-goes_out
returns-in-Err-clause-goes_out g c alone =
    let s : Script = script_of c.args.speaker.now in
    let now : Scene = record { history = c.args.pass.now.hand.made; input = g.I.Source.state c.args.input.now; out = g.O.Sink.state c.args.out.now } in
    let mid = g.O.Sink.state c.say_prompt.new.out in
    let is = asked c.args.place.now c.args.pass.now c.requires.placed alone in
    let U : List ℕ → Type 0 = λ t. IsUnsaid t now.out mid c.in-Err.status in
    out_unprompted s c.in-Err.status c.args.lines.now c.args.reader.now now mid (omega (arith, c.requires.few)) (subst U is c.in-Err.ensures.said) c.in-Err.ensures.later

pub returns-in-Err-hear-clause-goes_out : goal.returns-in-Err-hear-clause-goes_out
returns-in-Err-hear-clause-goes_out g c alone =
    let s : Script = script_of c.args.speaker.now in
    let now : Scene = record { history = c.args.pass.now.hand.made; input = g.I.Source.state c.args.input.now; out = g.O.Sink.state c.args.out.now } in
    let mid = g.O.Sink.state c.say_prompt.new.out in
    let is = asked c.args.place.now c.args.pass.now c.requires.placed alone in
    let W : List ℕ → Type 0 = λ t. IsWritten now.out mid t in
    out_lineless s c.in-Err-hear.status c.args.lines.now c.args.reader.now now (g.I.Source.state c.hear.new.input) mid (omega (arith, c.requires.few)) (subst W is c.in-Ok.ensures.said) c.in-Ok.ensures.later
    c.in-Err-hear.ensures.heard c.in-Err-hear.ensures.budget c.in-Err-hear.ensures.later

pub returns-in-Ok-reply-clause-goes_on : goal.returns-in-Ok-reply-clause-goes_on
returns-in-Ok-reply-clause-goes_on g c alone =
    let s : Script = script_of c.args.speaker.now in
    let now : Scene = record { history = c.args.pass.now.hand.made; input = g.I.Source.state c.args.input.now; out = g.O.Sink.state c.args.out.now } in
    let mid = g.O.Sink.state c.say_prompt.new.out in
    let before = alone_before c.args.pass.now.hand.seen c.reply.new.pass.hand.seen c.in-Ok-reply.ensures.further.begins alone in
    let is = asked c.args.place.now c.args.pass.now c.requires.placed before in
    let W : List ℕ → Type 0 = λ t. IsWritten now.out mid t in
    after_reply s c.args.lines.now c.args.reader.now c.hear.new.reader now c.in-Ok-hear.command c.reply.new.pass.hand.made (g.I.Source.state c.hear.new.input) mid (g.O.Sink.state c.reply.new.out) (Ok tt)
    c.in-Ok-hear.ensures.heard c.in-Ok-hear.ensures.later (subst W is c.in-Ok.ensures.said) c.in-Ok.ensures.later c.in-Ok-reply.ensures.later c.in-Ok-reply.ensures.replied

pub returns-in-Err-reply-clause-goes_out : goal.returns-in-Err-reply-clause-goes_out
returns-in-Err-reply-clause-goes_out g c alone =
    let s : Script = script_of c.args.speaker.now in
    let now : Scene = record { history = c.args.pass.now.hand.made; input = g.I.Source.state c.args.input.now; out = g.O.Sink.state c.args.out.now } in
    let mid = g.O.Sink.state c.say_prompt.new.out in
    let before = alone_before c.args.pass.now.hand.seen c.reply.new.pass.hand.seen c.in-Err-reply.ensures.further.begins alone in
    let is = asked c.args.place.now c.args.pass.now c.requires.placed before in
    let W : List ℕ → Type 0 = λ t. IsWritten now.out mid t in
    after_reply_out s c.args.lines.now c.args.reader.now c.hear.new.reader now c.in-Ok-hear.command c.reply.new.pass.hand.made (g.I.Source.state c.hear.new.input) mid (g.O.Sink.state c.reply.new.out) c.in-Err-reply.status
    c.requires.few c.in-Ok-hear.ensures.heard c.in-Ok-hear.ensures.budget c.in-Ok-hear.ensures.later (subst W is c.in-Ok.ensures.said) c.in-Ok.ensures.later c.in-Err-reply.ensures.later c.in-Err-reply.ensures.replied
