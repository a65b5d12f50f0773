use Rattle.dep_fields.specs.Checked.{single_groups}
use Rattle.dep_fields.specs.Views.{sound_left}
use Rattle.universe_model.specs.Dependencies.{of_conflicts}
use Rattle.requirement_list.specs.Settings.{setting_of}
use Rattle.requirement_list.specs.Answers.{AreRows}
use Rattle.requirement_list.specs.Collecting.{HasCome}
use Rattle.requirement_list.proofs.conflicts.add_conflicts.Given as goal

abbrev pub invariant-loop-group : goal.invariant-loop-group
invariant-loop-group l =
    let f = of_conflicts (setting_of l.index l.fn.collected) l.source l.own in
    record {
      come : HasCome (f (single_groups l.fn.field)) (f (sound_left l.group-iterator)) l.initial.collected l.collected;
      kept : AreRows (setting_of l.index l.fn.collected) l.room.answers;
    }
