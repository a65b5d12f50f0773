use Rattle.std.proofs.Common.{◌<◌}
use Rattle.session_cell.specs.Passes.{HasOut}
use Rattle.search_thread.specs.Slices.{IsSame}
use Rattle.search_thread.proofs.Held.{IsHeldAt}
use Rattle.search_thread.proofs.slice.Given as goal

abbrev pub invariant-loop : goal.invariant-loop
invariant-loop g l = record {
  same : IsSame l.fn.pass l.pass;
  held : IsHeldAt l.fn.pass.hand l.pass.hand l.job.leaf l.counter;
  out : HasOut l.pass l.job;
  early : l.pass.stop < l.round;
}
