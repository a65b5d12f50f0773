use Rattle.std.proofs.Common.{◌∙◌, ap, sym, ◌+◌, drop}
use Rattle.promotions.specs.declared.near.Lack.TheVariants.{Nothing}
use Rattle.promotions.specs.Nearness.{lack_from}
use Rattle.promotions.proofs.Lacks.{lack_more, walked}
use Rattle.promotions.proofs.near.lack_in.Goals as goal

pub returns-in-More : goal.returns-in-More
returns-in-More c =
    let rest = c.sought-found.result.1.now in
    let left = drop (c.loop-choice.choice-index + 1) c.args.part.now in
    sym (walked (lack_from c.args.set.now Nothing c.args.part.now) c.args.part.now c.loop-choice.rest.now rest c.loop-choice.choice-index c.loop-choice.lack c.lack_after-lack.result c.sought-found.result.0
    c.loop-choice.invariant.0 c.requires.part c.loop-choice-test.true c.sought-found.ensures.found c.sought-found.ensures.rest c.lack_after-lack.ensures
    ∙ ap (λ lack. lack_from rest lack left) c.in-More.is
    ∙ lack_more rest left)

pub loop-choice-preserved : goal.loop-choice-preserved
loop-choice-preserved c = (
  walked (lack_from c.args.set.now Nothing c.args.part.now) c.args.part.now c.loop-choice.rest.now c.sought-found.result.1.now c.loop-choice.choice-index c.loop-choice.lack c.lack_after-lack.result c.sought-found.result.0
      c.loop-choice.invariant.0 c.requires.part c.loop-choice-test.true c.sought-found.ensures.found c.sought-found.ensures.rest c.lack_after-lack.ensures,
  c.requires.part,
  c.sought-found.ensures.rising,
)
