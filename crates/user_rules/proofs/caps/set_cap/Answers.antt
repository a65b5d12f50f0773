use Rattle.std.proofs.Common.{sym, ◌∙◌}
use Rattle.user_rules.specs.CapOrder.{IsAt, IsGapFor}
use Rattle.user_rules.proofs.CapPlaces.{with_cap-at, with_cap-gap, without_cap-at, without_cap-gap, rises-insert}
use Rattle.user_rules.proofs.caps.set_cap.Goals as goal

pub returns-in-Ok-Some-clause-caps : goal.returns-in-Ok-Some-clause-caps
returns-in-Ok-Some-clause-caps c =
    let at : IsAt c.args.caps.now.items c.args.level c.in-Ok-Some.place = rw (← c.deref.ensures.value) c.in-Ok-Some.ensures.found in
    rw c.in-Ok-Some.is-1 (sym (with_cap-at c.args.level c.in-Ok-Some.most c.args.caps.now.items c.in-Ok-Some.place c.requires at))

pub returns-in-Ok-None-clause-caps : goal.returns-in-Ok-None-clause-caps
returns-in-Ok-None-clause-caps c =
    let at : IsAt c.args.caps.now.items c.args.level c.in-Ok-None.place = rw (← c.deref.ensures.value) c.in-Ok-None.ensures.found in
    rw c.in-Ok-None.is-1 (c.remove.ensures.items ∙ sym (without_cap-at c.args.level c.args.caps.now.items c.in-Ok-None.place c.requires at))

pub returns-in_ok-insert-in-Err-Some-clause-rises : goal.returns-in_ok-insert-in-Err-Some-clause-rises
returns-in_ok-insert-in-Err-Some-clause-rises c =
    let gap : IsGapFor c.args.caps.now.items c.args.level c.in-Err-Some.place = rw (← c.deref.ensures.value) c.in-Err-Some.ensures.absent in
    rw c.in_ok-insert-in-Err-Some.ensures.items (rises-insert c.args.caps.now.items c.args.level c.in-Err-Some.place gap c.in-Err-Some.most c.requires)

pub returns-in_ok-insert-in-Err-Some-clause-caps : goal.returns-in_ok-insert-in-Err-Some-clause-caps
returns-in_ok-insert-in-Err-Some-clause-caps c =
    let gap : IsGapFor c.args.caps.now.items c.args.level c.in-Err-Some.place = rw (← c.deref.ensures.value) c.in-Err-Some.ensures.absent in
    rw c.in-Err-Some.is-1 (c.in_ok-insert-in-Err-Some.ensures.items ∙ sym (with_cap-gap c.args.level c.in-Err-Some.most c.args.caps.now.items c.in-Err-Some.place gap))

pub returns-in-Err-None-clause-caps : goal.returns-in-Err-None-clause-caps
returns-in-Err-None-clause-caps c =
    let gap : IsGapFor c.args.caps.now.items c.args.level c.in-Err-None.field-0-0 = rw (← c.deref.ensures.value) c.in-Err-None.ensures.absent in
    rw c.in-Err-None.is-1 (sym (without_cap-gap c.args.level c.args.caps.now.items c.in-Err-None.field-0-0 gap))
