use Rattle.std.proofs.Common.{arith}
use Rattle.apt_base.proofs.Reading.{has_read_more, took_at_most, length-more}
use Rattle.apt_base.proofs.whole.read_open.Goals as goal

pub returns-then-limit-len-clause-budget : goal.returns-then-limit-len-clause-budget
returns-then-limit-len-clause-budget g c =
    let i = c.loop-bytes.invariant in
    let more = has_read_more _ _ _ _ _ _ i.0 c.in_ok-count.ensures in
    let size = length-more c.loop-bytes.bytes.items c.read.new.buf c.in_ok-count.count c.in_ok-count.ensures.bytes.within in
    took_at_most _ _ _ _ more (omega (arith, size, i.1, c.in_ok-count.ensures.bytes.within))

pub returns-in_err-extend_from_slice-clause-budget : goal.returns-in_err-extend_from_slice-clause-budget
returns-in_err-extend_from_slice-clause-budget g c =
    let i = c.loop-bytes.invariant in
    let more = has_read_more _ _ _ _ _ _ i.0 c.in_ok-count.ensures in
    let size = length-more c.loop-bytes.bytes.items c.read.new.buf c.in_ok-count.count c.in_ok-count.ensures.bytes.within in
    took_at_most _ _ _ _ more (omega (arith, size, i.1, c.in_ok-count.ensures.bytes.within))
