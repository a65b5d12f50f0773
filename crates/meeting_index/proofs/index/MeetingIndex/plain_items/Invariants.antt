use Rattle.std.proofs.Common.{◌≡◌, ◌||◌, ℕ, map}
use Rattle.std.specs.List.{flat_map}
use Rattle.lists.specs.Sets.{has}
use Rattle.dep_fields.specs.Relationships.{meaning}
use Rattle.dep_fields.specs.Views.{group_items, items_left}
use Rattle.meeting_index.specs.Carriers.{carried}
use Rattle.meeting_index.proofs.index.MeetingIndex.plain_items.Given as goal

-- what the items so far find, and those that are left, is all
abbrev pub invariant-loop-item : goal.invariant-loop-item
invariant-loop-item l =
    (c : ℕ) → (has (flat_map (carried l.self.native l.self.versions) (map meaning l.items.items)) c || has (flat_map (carried l.self.native l.self.versions) (items_left l.item-iterator)) c)
    ≡ has (flat_map (carried l.self.native l.self.versions) (group_items l.group)) c
