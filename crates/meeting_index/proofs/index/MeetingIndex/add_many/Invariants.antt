use Rattle.std.proofs.Common.{◌≡◌, ◌||◌, ℕ, map, drop}
use Rattle.std.specs.List.{flat_map}
use Rattle.std.specs.Option.{ForSome}
use Rattle.lists.specs.Sets.{has}
use Rattle.dep_fields.specs.Relationships.{meaning}
use Rattle.meeting_index.specs.Carriers.{carried}
use Rattle.meeting_index.proofs.index.MeetingIndex.add_many.Given as goal

-- what is found so far, and by the items that are left, is all, and what the last item finds was found
abbrev pub invariant-loop-item : goal.invariant-loop-item
invariant-loop-item l = record {
  all : (c : ℕ) → (has l.targets.numbers.items c || has (flat_map (carried l.self.native l.self.versions) (map meaning (drop l.item-index l.items))) c)
      ≡ (has l.initial.targets.numbers.items c || has (flat_map (carried l.self.native l.self.versions) (map meaning l.items)) c);
  last : ForSome l.last (λ item. (c : ℕ) → (has l.targets.numbers.items c || has (carried l.self.native l.self.versions (meaning item)) c) ≡ has l.targets.numbers.items c);
}
