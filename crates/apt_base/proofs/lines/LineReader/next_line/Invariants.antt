use Rattle.std.proofs.Common.{◌+◌, ◌-◌, length}
use Rattle.apt_base.proofs.Inputs.{HasPart}
use Rattle.apt_base.proofs.lines.LineReader.next_line.Given as goal

abbrev pub invariant-loop-line : goal.invariant-loop-line
invariant-loop-line g l = HasPart (g.I.Source.state l.initial.source) l.initial.self l.line.items l.self (g.I.Source.state l.source)

abbrev pub decreases-loop-line : goal.decreases-loop-line
decreases-loop-line g l = 4097 - (length l.line.items + length l.self)
