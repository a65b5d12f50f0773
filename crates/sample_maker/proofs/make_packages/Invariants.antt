use Rattle.std.proofs.Common.{◌≡◌}
use Rattle.sample_maker.specs.Draws.{state}
use Rattle.sample_maker.specs.Samples.{archive_draws, archive_text}
use Rattle.sample_maker.proofs.make_packages.Given as goal

abbrev pub invariant-loop-number : goal.invariant-loop-number
invariant-loop-number l = record {
  written : l.text ≡ archive_text l.initial.generator.state l.number;
  drawn : l.generator.state ≡ state l.initial.generator.state (archive_draws l.initial.generator.state l.number);
}
