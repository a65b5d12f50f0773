use Rattle.std.proofs.Common.{◌+◌, sym, ◌∙◌}
use Rattle.lists.proofs.Sets.{is_rising-drop}
use Rattle.choice_set.proofs.Rising.{merged, not_merged}
use Rattle.choice_set.proofs.ChoiceSet.is_subset.Goals as goal

pub returns-in_default : goal.returns-in_default
returns-in_default c =
    sym (c.loop-choice.invariant.0 ∙ not_merged c.as_slice-few.result.now c.loop-choice.rest.now c.loop-choice.choice-index c.loop-choice-test.true c.in_default.ensures.found)

pub loop-choice-preserved : goal.loop-choice-preserved
loop-choice-preserved c =
    let e = c.split_at.ensures.back in
    let found = c.in-Some.ensures.found in
    let step = merged c.as_slice-few.result.now c.loop-choice.rest.now c.loop-choice.choice-index c.in-Some.place c.loop-choice.invariant.1 c.loop-choice.invariant.2 c.loop-choice-test.true found.0 found.1 in
    rw e (c.loop-choice.invariant.0 ∙ step, c.loop-choice.invariant.1, is_rising-drop c.loop-choice.rest.now (c.in-Some.place + 1) c.loop-choice.invariant.2)
