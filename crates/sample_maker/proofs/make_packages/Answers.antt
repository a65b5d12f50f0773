use Rattle.std.proofs.Common.{refl, ◌+◌}
use Rattle.sample_maker.specs.Draws.{state, earlier_draws, conflict_draws}
use Rattle.sample_maker.specs.Samples.{archive_draws}
use Rattle.sample_maker.proofs.More.{state-state, archive_text-more, archive_draws-more}
use Rattle.sample_maker.proofs.make_packages.Goals as goal

pub loop-number-preserved : goal.loop-number-preserved
loop-number-preserved c =
    let x = c.args.generator.now.state in
    let n = c.loop-number.number in
    let before = archive_draws x n in
    let between = before + earlier_draws n in
    record {
      written = rw (archive_text-more x n, c.in_ok-add_archived.ensures, c.loop-number.invariant.written, c.draw_conflict-conflicts.ensures.drawn, c.draw_earlier-depends.ensures.drawn, c.draw_earlier-depends.ensures.state, c.loop-number.invariant.drawn, state-state x before (earlier_draws n)) refl;
      drawn = rw (archive_draws-more x n, c.draw_conflict-conflicts.ensures.state, c.draw_earlier-depends.ensures.state, c.loop-number.invariant.drawn, state-state x before (earlier_draws n)) (state-state x between (conflict_draws (state x between) n));
    }
