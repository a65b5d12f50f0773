-- What the readers of a relationship field have read, and what they have left to read.
use Rattle.std.specs.Prelude.{◌≡◌, ℕ, true, List, [], ◌∷◌, drop, Option, Some, None, Result, Ok, Err}
use Rattle.dep_fields.specs.declared.groups.Group.{Group}
use Rattle.dep_fields.specs.declared.groups.Groups.{Groups}
use Rattle.dep_fields.specs.declared.groups.Items.{Items}
use Rattle.dep_fields.specs.declared.groups.sound.SoundGroups.{SoundGroups}
use Rattle.dep_fields.specs.declared.RelKind.{RelKind}
use Rattle.dep_fields.specs.declared.RelFault.{RelFault}
use Rattle.dep_fields.specs.Relationships.{Relationship}
use Rattle.dep_fields.specs.Fields.{Field, comma, bar, pieces, parts_left, items_of, items_in, spans_in, field_in, behind_group}

-- the items of a group
abbrev pub group_items : Group → List Relationship
group_items group = items_of group.text.now

-- the items that an iterator over a group has left to give
abbrev pub items_left : Items → List Relationship
items_left items = items_in (parts_left bar items.left)

-- the whole value
abbrev pub value_of : Groups → List ℕ
value_of groups = groups.value.now

-- what is left of the value
abbrev pub rest_of : Groups → List ℕ
rest_of groups = drop groups.place groups.value.now

abbrev pub no_groups : Field
no_groups = record { groups = []; fault = None }

abbrev pub only_fault : RelFault → Field
only_fault fault = record { groups = []; fault = Some fault }

-- what is left once a fault of this kind was answered at a place, and as long as none was
abbrev pub left_after : Option RelKind → ℕ → Field → Field
left_after None place field = field
left_after (Some kind) place field = only_fault (record { at = place; kind = kind })

-- the groups and the fault that are left to be answered
abbrev pub field_left : Groups → Field
field_left groups = left_after groups.fault groups.place (field_in groups.alternatives (spans_in groups.place (pieces comma (rest_of groups))))

-- the groups that are left of a value without a fault
abbrev pub sound_left : SoundGroups → List (List Relationship)
sound_left groups = (field_in true (spans_in groups.place (pieces comma (drop groups.place groups.value.now)))).groups

-- A call of `next` with these groups and this fault left gives the first group and leaves the others, gives the
-- fault where no group is left and leaves it, or gives `None` where nothing is left.
abbrev pub Answers : Result (Option Group) RelFault → Field → Field → Type 0
Answers (Ok None) old new = (old ≡ no_groups) × (new ≡ no_groups)
Answers (Ok (Some group)) old new = old ≡ record { groups = group_items group ∷ new.groups; fault = new.fault }
Answers (Err fault) old new = (old ≡ only_fault fault) × (new ≡ only_fault fault)

-- The rest of a value after a call of `next`: behind a group and its comma, from the faulty item on, or as it was.
abbrev pub LeavesRest : Result (Option Group) RelFault → List ℕ → List ℕ → List ℕ → Type 0
LeavesRest (Ok None) value old new = new ≡ old
LeavesRest (Ok (Some group)) value old new = new ≡ behind_group old
LeavesRest (Err fault) value old new = new ≡ drop fault.at value
