use Rattle.std.proofs.Common.{ℕ, []}
use Rattle.search_thread.specs.Slices.{IsSame, IsSearched}
use Rattle.search_thread.proofs.work.Given as goal

abbrev pub invariant-loop : goal.invariant-loop
invariant-loop g l = record {
  same : IsSame l.initial.pass l.pass;
  searched : (pairs : ℕ) × IsSearched l.initial.pass.hand l.pass.hand pairs [];
}
