use Rattle.std.specs.List.{flat_map}
use Rattle.dep_fields.specs.Views.{group_items, items_left}
use Rattle.universe_model.specs.Dependencies.{of_conflict}
use Rattle.requirement_list.specs.Settings.{setting_of}
use Rattle.requirement_list.specs.Answers.{AreRows}
use Rattle.requirement_list.specs.Collecting.{HasCome}
use Rattle.requirement_list.proofs.conflicts.add_items.Given as goal

abbrev pub invariant-loop-item : goal.invariant-loop-item
invariant-loop-item l =
    let f = of_conflict (setting_of l.index l.fn.collected) l.source l.own in
    record {
      come : HasCome (flat_map f (group_items l.fn.group)) (flat_map f (items_left l.item-iterator)) l.initial.collected l.collected;
      kept : AreRows (setting_of l.index l.fn.collected) l.room.answers;
    }
