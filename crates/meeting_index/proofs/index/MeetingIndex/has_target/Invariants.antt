use Rattle.std.proofs.Common.{◌≡◌}
use Rattle.std.specs.List.{list_any}
use Rattle.dep_fields.specs.Views.{group_items, items_left}
use Rattle.universe_model.specs.Meeting.{meets_any}
use Rattle.meeting_index.proofs.index.MeetingIndex.has_target.Given as goal

-- no version meets the items so far
abbrev pub invariant-loop-item : goal.invariant-loop-item
invariant-loop-item l =
    list_any (meets_any l.self.native (items_left l.item-iterator)) l.self.versions
    ≡ list_any (meets_any l.self.native (group_items l.group)) l.self.versions
