use Rattle.std.proofs.Common.{◌+◌, not}
use Rattle.std.specs.List.{filter}
use Rattle.dep_fields.specs.Checked.{alternatives_groups}
use Rattle.dep_fields.specs.Views.{sound_left}
use Rattle.universe_model.specs.Lists.{map_from}
use Rattle.universe_model.specs.Dependencies.{recommended, of_recommends, is_broken_now}
use Rattle.requirement_list.specs.Settings.{setting_of}
use Rattle.requirement_list.specs.Collecting.{HasCome}
use Rattle.requirement_list.proofs.groups.add_recommends.Given as goal

abbrev pub invariant-loop-group : goal.invariant-loop-group
invariant-loop-group l =
    let s = setting_of l.indexes.all l.fn.collected in
    let left = sound_left l.group-iterator in
    HasCome (of_recommends s l.source (alternatives_groups l.fn.field)) (filter (λ r. not (is_broken_now s r)) (map_from (recommended s l.source) (l.place + 1) left)) l.initial.collected l.collected
