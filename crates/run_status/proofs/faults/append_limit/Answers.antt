use Rattle.std.proofs.Common.{append_assoc}
use Rattle.run_status.proofs.faults.append_limit.Goals as goal

pub returns-clause-ok : goal.returns-clause-ok
returns-clause-ok c = rw (c.in_ok-append_framed.ensures.ok, c.in_ok-append-2.ensures.ok, c.in_ok-append.ensures.ok, c.which_name.ensures) (simp append_assoc)
