use Rattle.std.proofs.Common.{map, drop}
use Rattle.universe_model.specs.Lists.{map_from}
use Rattle.universe_model.specs.Versions.{concat}
use Rattle.universe_model.specs.Dependencies.{of_version, requirements}
use Rattle.universe_parts.specs.Listed.{version_listed}
use Rattle.requirement_list.specs.Settings.{setting_of}
use Rattle.requirement_list.specs.Answers.{AreRows}
use Rattle.requirement_list.specs.Collecting.{HasCome}
use Rattle.requirement_list.proofs.versions.add_versions.Given as goal

abbrev pub invariant-loop-number : goal.invariant-loop-number
invariant-loop-number l =
    let s = setting_of l.indexes.all l.fn.collected in
    record {
      come : HasCome (requirements s) (concat (map_from (of_version s) l.number (map version_listed (drop l.number l.versions)))) l.initial.collected l.collected;
      kept : AreRows s l.room.answers;
    }
