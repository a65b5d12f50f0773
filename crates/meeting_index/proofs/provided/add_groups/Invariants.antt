use Rattle.std.proofs.Common.{◌≡◌, ◌++◌, map}
use Rattle.std.specs.List.{flat_map}
use Rattle.dep_fields.specs.Checked.{provides_groups}
use Rattle.dep_fields.specs.Views.{sound_left}
use Rattle.meeting_index.specs.Carriers.{provided_in}
use Rattle.meeting_index.specs.Provided.{carrier_of}
use Rattle.meeting_index.proofs.provided.add_groups.Given as goal

-- what is listed so far, and what is still to come, are all
abbrev pub invariant-loop-group : goal.invariant-loop-group
invariant-loop-group l =
    map carrier_of l.list.items ++ flat_map (provided_in l.native l.number) (sound_left l.group-iterator)
    ≡ map carrier_of l.initial.list.items ++ flat_map (provided_in l.native l.number) (provides_groups l.fn.provides)
