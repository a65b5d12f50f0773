use Rattle.std.proofs.Common.{[], ◌∷◌, map}
use Rattle.std.proofs.lemmas.Result.{err_from_is_err_and}
use Rattle.dep_fields.specs.Checked.{alternatives_groups}
use Rattle.dep_fields.specs.Views.{sound_left, group_items}
use Rattle.universe_model.specs.Dependencies.{of_group}
use Rattle.requirement_list.specs.Settings.{setting_of}
use Rattle.requirement_list.proofs.Collecting.{ended_more}
use Rattle.requirement_list.proofs.groups.add_groups.Goals as goal

pub returns-in_err-add_group : goal.returns-in_err-add_group
returns-in_err-add_group c =
    let f = of_group (setting_of c.args.index.now c.args.collected.now) c.args.source in
    let left = sound_left c.next.new.self in
    let come = rw c.in-Some.ensures.steps at c.loop-group.invariant in
    let p = err_from_is_err_and c.from_residual.result c.from_residual.ensures.1 in
    rw (p.1, p.2) (ended_more (map f (alternatives_groups c.args.field)) (f (group_items c.in-Some.group) ∷ []) (map f left) c.args.collected.now c.loop-group.collected _ come c.in_err-add_group.ensures)
