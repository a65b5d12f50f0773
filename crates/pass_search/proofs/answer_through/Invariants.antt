use Rattle.std.proofs.Common.{◌≡◌, true}
use mathlib.Core.List.{IsPrefix}
use Rattle.search_thread.specs.Slices.{IsSame}
use Rattle.pass_search.specs.Answers.{HasSearched}
use Rattle.pass_search.proofs.answer_through.Given as goal

abbrev pub invariant-loop : goal.invariant-loop
invariant-loop g l = record {
  same : IsSame l.fn.pass l.pass;
  stop : l.pass.stop ≡ l.fn.pass.stop;
  begins : IsPrefix l.fn.pass.hand.seen l.pass.hand.seen;
  searched : HasSearched l.fn.pass l.pass;
  room : l.pass.hand.reserved ≡ true;
}
