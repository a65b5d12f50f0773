use Rattle.std.proofs.Common.{refl}
use Rattle.sample_maker.specs.Draws.{earlier_draws}
use Rattle.sample_maker.specs.Samples.{installed_draws}
use Rattle.sample_maker.proofs.More.{state-state, status_text-more, installed_draws-more}
use Rattle.sample_maker.proofs.make_status.Goals as goal

pub loop-number-preserved : goal.loop-number-preserved
loop-number-preserved c =
    let x = c.args.generator.now.state in
    let n = c.loop-number.number in
    record {
      written = rw (status_text-more x n, c.in_ok-add_installed.ensures, c.loop-number.invariant.written, c.draw_earlier-depends.ensures.drawn, c.loop-number.invariant.drawn) refl;
      drawn = rw (installed_draws-more n, c.draw_earlier-depends.ensures.state, c.loop-number.invariant.drawn) (state-state x (installed_draws n) (earlier_draws n));
    }
