use Rattle.std.proofs.Common.{length}
use Rattle.apt_base.proofs.Writing.{HasWritten}
use Rattle.apt_base.proofs.whole.write_all.Given as goal

abbrev pub invariant-loop-rest : goal.invariant-loop-rest
invariant-loop-rest g l = HasWritten (g.O.Sink.state l.initial.sink) l.bytes l.rest (g.O.Sink.state l.sink)

abbrev pub decreases-loop-rest : goal.decreases-loop-rest
decreases-loop-rest g l = length l.rest
