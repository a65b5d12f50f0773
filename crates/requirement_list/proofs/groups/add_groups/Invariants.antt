use Rattle.std.proofs.Common.{map}
use Rattle.dep_fields.specs.Checked.{alternatives_groups}
use Rattle.dep_fields.specs.Views.{sound_left}
use Rattle.universe_model.specs.Dependencies.{of_group}
use Rattle.requirement_list.specs.Settings.{setting_of}
use Rattle.requirement_list.specs.Collecting.{HasCome}
use Rattle.requirement_list.proofs.groups.add_groups.Given as goal

abbrev pub invariant-loop-group : goal.invariant-loop-group
invariant-loop-group l =
    let f = of_group (setting_of l.index l.fn.collected) l.source in
    HasCome (map f (alternatives_groups l.fn.field)) (map f (sound_left l.group-iterator)) l.initial.collected l.collected
