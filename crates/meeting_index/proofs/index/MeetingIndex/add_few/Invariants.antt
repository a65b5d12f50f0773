use Rattle.std.proofs.Common.{◌≡◌, ◌||◌, ℕ}
use Rattle.std.specs.List.{flat_map}
use Rattle.lists.specs.Sets.{has}
use Rattle.dep_fields.specs.Views.{group_items, items_left}
use Rattle.meeting_index.specs.Carriers.{carried}
use Rattle.meeting_index.proofs.index.MeetingIndex.add_few.Given as goal

-- what is found so far, and by the items that are left, is all
abbrev pub invariant-loop-item : goal.invariant-loop-item
invariant-loop-item l =
    (c : ℕ) → (has l.met.items c || has (flat_map (carried l.self.native l.self.versions) (items_left l.item-iterator)) c)
    ≡ (has l.initial.met.items c || has (flat_map (carried l.self.native l.self.versions) (group_items l.group)) c)
