use Rattle.std.proofs.Common.{◌≡◌, ◌+◌, ◌<◌, ℕ, ◌∙◌, refl, sym, subst, arith}
use Rattle.search_thread.specs.Slices.{IsSame}
use Rattle.search_thread.proofs.Held.{held_first, held_step, gone_as, back_as, all_made}
use Rattle.search_thread.proofs.slice.Goals as goal

pub loop-init : goal.loop-init
loop-init g c =
    let old = c.args.pass.now in
    let new = c.begin.new.pass in
    let same : IsSame old new = c.in-Ok.ensures.pass in
    let begun = c.in-Ok.ensures.begun in record {
      same = same;
      held = record { pairs = 0; next = refl; held = held_first old.hand new.hand c.in-Ok.job.leaf same.actor c.requires.idle begun.0 };
      out = begun.1;
      early = begun.2;
    }

pub returns-in-Err-go_on-clause-ended : goal.returns-in-Err-go_on-clause-ended
returns-in-Err-go_on-clause-ended g c =
    let at = c.loop.invariant.held in
    let below : at.pairs + 1 < c.args.most = omega (arith, at.next, c.loop-test.true) in
    gone_as c.args.pass.now c.loop.pass c.go_on.new.pass c.args.round c.args.most c.loop.job.leaf at.pairs c.in-Err-go_on.end at.held c.in-Err-go_on.ensures.gone below

pub loop-preserved : goal.loop-preserved
loop-preserved g c =
    let old = c.args.pass.now in
    let pass = c.loop.pass in
    let new = c.go_on.new.pass in
    let was : IsSame old pass = c.loop.invariant.same in
    let same : IsSame pass new = c.in-Ok-go_on.ensures.pass in
    let gone = c.in-Ok-go_on.ensures.gone in record {
      same = record { table = same.table ∙ was.table; stops = same.stops ∙ was.stops; start = same.start ∙ was.start; actor = same.actor ∙ was.actor };
      held = held_step old.hand pass.hand new.hand c.loop.job.leaf c.in-Ok-go_on.next.leaf c.loop.counter gone.0 gone.1 same.actor c.loop.invariant.held gone.2;
      out = gone.3;
      early = gone.4;
    }

pub returns-in-Ok-end_job-clause-ended : goal.returns-in-Ok-end_job-clause-ended
returns-in-Ok-end_job-clause-ended g c =
    let all : c.loop.counter ≡ c.args.most = omega (arith, c.loop-test.false, c.loop.auto.counter-end, c.requires.most) in
    all_made c.args.pass.now c.loop.pass c.end_job.new.pass c.args.round c.args.most c.loop.job.leaf c.loop.counter c.loop.invariant.held all c.in-Ok-end_job.ensures.done c.in-Ok-end_job.ensures.stop c.loop.invariant.early

pub returns-in-Err-end_job-clause-ended : goal.returns-in-Err-end_job-clause-ended
returns-in-Err-end_job-clause-ended g c =
    let at = c.loop.invariant.held in
    let all : c.loop.counter ≡ c.args.most = omega (arith, c.loop-test.false, c.loop.auto.counter-end, c.requires.most) in
    let below : at.pairs < c.args.most = omega (arith, at.next, all) in
    let early : c.end_job.new.pass.stop < c.args.round = subst (λ (n : ℕ). n < c.args.round) (sym c.in-Err-end_job.ensures.stop) c.loop.invariant.early in
    back_as c.args.pass.now c.loop.pass c.end_job.new.pass c.args.round c.args.most c.loop.job.leaf at.pairs at.held c.in-Err-end_job.ensures.undone early below
