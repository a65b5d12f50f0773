use Rattle.std.proofs.Common.{ap, sym, Some, ◌∙◌}
use Rattle.std.proofs.lemmas.List.{get_or_default}
use Rattle.resolver_model.specs.Rules.{Cap}
use Rattle.user_rules.specs.CapOrder.{IsAt, IsGapFor}
use Rattle.user_rules.proofs.CapPlaces.{cap_of-at, cap_of-gap}
use Rattle.user_rules.proofs.rules.Rules.cap_of.Goals as goal

pub returns-in-Ok : goal.returns-in-Ok
returns-in-Ok c =
    let at : IsAt c.self.inside.caps.items c.args.level c.in-Ok.place = rw (← c.deref.ensures.value) c.in-Ok.ensures.found in
    let read = get_or_default c.self.inside.caps.items c.in-Ok.place c.index.result.now (0, 0) at.in_range in
    rw (← c.self.view_is) (ap (λ (cap : Cap). Some cap.1) (c.index.ensures ∙ read) ∙ sym (cap_of-at (record { approved = c.self.inside.approved; rejected = c.self.inside.rejected; caps = c.self.inside.caps.items }) c.args.level c.in-Ok.place c.self.invariant.caps at))

pub returns-in-Err : goal.returns-in-Err
returns-in-Err c =
    let gap : IsGapFor c.self.inside.caps.items c.args.level c.in-Err.field-0 = rw (← c.deref.ensures.value) c.in-Err.ensures.absent in
    rw (← c.self.view_is) (sym (cap_of-gap (record { approved = c.self.inside.approved; rejected = c.self.inside.rejected; caps = c.self.inside.caps.items }) c.args.level c.in-Err.field-0 gap))
