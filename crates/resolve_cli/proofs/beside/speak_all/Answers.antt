use Rattle.std.proofs.Common.{◌≡◌, [], eq-eqb}
use Rattle.resolve_cli.specs.Reports.{scene}
use Rattle.resolve_cli.proofs.Threads.{speech_alone}
use Rattle.resolve_cli.proofs.beside.speak_all.Goals as goal

pub returns-then-prepared-eq0 : goal.returns-then-prepared-eq0
returns-then-prepared-eq0 g c =
    let none : c.args.prepared.workers ≡ 0 = c.if-prepared-eq0.true in
    speech_alone c.args.prepared (scene [] (g.I.Source.state c.args.input.now) (g.O.Sink.state c.args.out.now)) (g.I.Source.state c.speak_over.new.input) (g.O.Sink.state c.speak_over.new.out) c.speak_over.result none c.speak_over.ensures
