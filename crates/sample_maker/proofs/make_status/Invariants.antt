use Rattle.std.proofs.Common.{◌≡◌}
use Rattle.sample_maker.specs.Draws.{state}
use Rattle.sample_maker.specs.Samples.{installed_draws, status_text}
use Rattle.sample_maker.proofs.make_status.Given as goal

abbrev pub invariant-loop-number : goal.invariant-loop-number
invariant-loop-number l = record {
  written : l.text ≡ status_text l.initial.generator.state l.number;
  drawn : l.generator.state ≡ state l.initial.generator.state (installed_draws l.number);
}
