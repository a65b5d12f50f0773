use Rattle.std.proofs.Common.{◌<◌, length, arith}
use Rattle.std.proofs.lemmas.Bool.Decides.{nat_tests}
use Rattle.std.proofs.lemmas.Slice.{between_to_end}
use Rattle.apt_base.proofs.Writing.{has_written_more, written_prefix}
use Rattle.apt_base.proofs.whole.write_all.Goals as goal

pub loop-rest-preserved : goal.loop-rest-preserved
loop-rest-preserved g c =
    let e = between_to_end c.loop-rest.rest.now c.in-Ok.count (length c.loop-rest.rest.now) (omega arith) in
    rw e (has_written_more _ _ _ _ _ _ c.loop-rest.invariant c.in-Ok.ensures)

pub returns-in-Err-clause-prefix : goal.returns-in-Err-clause-prefix
returns-in-Err-clause-prefix g c =
    let some : 0 < length c.loop-rest.rest.now = grind (arith, nat_tests) in
    written_prefix _ _ _ _ _ _ c.loop-rest.invariant some c.in-Err.ensures
