use Rattle.cost_vector.proofs.Readings.{times_fault, times_read}
use Rattle.cost_vector.proofs.reader.Reader.times.Goals as goal

pub returns-then-pass : goal.returns-then-pass
returns-then-pass c = rw c.number-times.ensures.value (times_read _ _ _ _ _ _ c.number-times.ensures.run c.spaces.ensures c.if-pass.ensures.yes)

pub returns-else-pass : goal.returns-else-pass
returns-else-pass c = rw c.if-pass.ensures.no.0 (times_fault _ _ _ _ _ c.number-times.ensures.run c.spaces.ensures c.if-pass.ensures.no.1)
