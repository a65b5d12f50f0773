use Rattle.std.proofs.Common.{◌≡◌, ◌++◌, map}
use Rattle.dep_fields.specs.Views.{group_items, items_left}
use Rattle.meeting_index.specs.Carriers.{provided_in}
use Rattle.meeting_index.specs.Provided.{carrier_of}
use Rattle.meeting_index.proofs.provided.add_group.Given as goal

-- what is listed so far, and what is still to come, are all
abbrev pub invariant-loop-item : goal.invariant-loop-item
invariant-loop-item l =
    map carrier_of l.list.items ++ provided_in l.native l.number (items_left l.item-iterator)
    ≡ map carrier_of l.initial.list.items ++ provided_in l.native l.number (group_items l.group)
