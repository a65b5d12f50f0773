-- Whole relationship fields (Debian Policy 7.1): groups between commas, and alternatives between bars.
use Rattle.std.specs.Prelude.{◌≡◌, ◌⊎◌, ◌++◌, ℕ, ◌+◌, Bool, true, false, not, ◌||◌, ◌==◌, List, [], ◌∷◌, length, Option, Some, None, Result, Ok, Err, filter_map, if◌then◌else◌, is_ok}
use Rattle.std.specs.List.{list_all, prefix_len, slice_split}
use Rattle.std.specs.Borrow.{Bor}
use Rattle.std.specs.Option.{option_or}
use Rattle.std.specs.Result.{result_ok}
use Rattle.dep_fields.specs.declared.RelKind.{RelKind}
use Rattle.dep_fields.specs.declared.RelKind.TheVariants.{Alternative}
use Rattle.dep_fields.specs.declared.RelFault.{RelFault}
use Rattle.dep_fields.specs.Tokens.{is_blank, behind}
use Rattle.dep_fields.specs.Relationships.{Relationship, relationship_of}

-- the parts of a text between the bytes that are `mark`: one part more than there are marks
abbrev pub pieces : ℕ → List ℕ → List (List ℕ)
pieces mark text = slice_split (λ byte. byte == mark) text

-- the parts of what is left of a text, if anything is
abbrev pub parts_left : ℕ → Option (Bor (List ℕ)) → List (List ℕ)
parts_left mark None = []
parts_left mark (Some text) = pieces mark text.now

-- no byte is `mark`
abbrev pub has_none : ℕ → List ℕ → Bool
has_none mark text = list_all (λ byte. not (byte == mark)) text

abbrev pub comma : ℕ
comma = 44

abbrev pub bar : ℕ
bar = 124

-- where an item begins whose part of the text begins at a place
abbrev pub item_place : ℕ → List ℕ → ℕ
item_place at part = at + prefix_len is_blank part

-- a fault of this kind at the item of a part
abbrev pub fault_at : ℕ → List ℕ → RelKind → RelFault
fault_at at part kind = record { at = item_place at part; kind = kind }

abbrev pub is_nil : {A : Type 0} → List A → Bool
is_nil items = length items == 0

-- the fault of one part of a group that begins at a place, by whether it is the last and what it spells
abbrev pub part_fault : Bool → ℕ → List ℕ → Bool → Result Relationship RelKind → Option RelFault
part_fault alternatives at part last (Err kind) = Some (fault_at at part kind)
part_fault alternatives at part last (Ok item) = if alternatives || last then None else Some (fault_at at part Alternative)

-- the first fault of a group in these parts, the first of which begins at a place
abbrev pub first_fault : Bool → ℕ → List (List ℕ) → Option RelFault
first_fault alternatives at [] = None
first_fault alternatives at (part ∷ parts) =
    option_or (part_fault alternatives at part (is_nil parts) (relationship_of part)) (first_fault alternatives (at + length part + 1) parts)

abbrev pub reads : List ℕ → Bool
reads part = is_ok (relationship_of part)

-- the items that the parts spell
abbrev pub items_in : List (List ℕ) → List Relationship
items_in parts = filter_map (λ part. result_ok (relationship_of part)) parts

-- the items of a group's text
abbrev pub items_of : List ℕ → List Relationship
items_of text = items_in (pieces bar text)

-- a part of a value, and where it begins
pub record Span : Type 0 where
  pub at : ℕ
  pub text : List ℕ

abbrev pub is_empty_group : List ℕ → Bool
is_empty_group text = list_all is_blank text

-- the groups among these parts of a value, the first of which begins at a place: those that are not blank
abbrev pub spans_in : ℕ → List (List ℕ) → List Span
spans_in at [] = []
spans_in at (part ∷ parts) =
    if is_empty_group part then spans_in (at + length part + 1) parts
    else record { at = at; text = part } ∷ spans_in (at + length part + 1) parts

abbrev pub spans_of : List ℕ → List Span
spans_of value = spans_in 0 (pieces comma value)

-- a relationship field: its groups up to the first fault, and that fault
pub record Field : Type 0 where
  pub groups : List (List Relationship)
  pub fault : Option RelFault

abbrev pub with_group : Option RelFault → List Relationship → Field → Field
with_group None group field = record { groups = group ∷ field.groups; fault = field.fault }
with_group (Some fault) group field = record { groups = []; fault = Some fault }

abbrev pub field_in : Bool → List Span → Field
field_in alternatives [] = record { groups = []; fault = None }
field_in alternatives (span ∷ spans) =
    with_group (first_fault alternatives span.at (pieces bar span.text)) (items_of span.text) (field_in alternatives spans)

-- the groups of a value and its first fault, where a group may have several alternatives or may not
unfoldable pub field_of : Bool → List ℕ → Field
field_of alternatives value = field_in alternatives (spans_of value)

-- ---- what is left of a value behind a group

abbrev pub is_separator : ℕ → Bool
is_separator byte = is_blank byte || byte == comma

-- what stands behind the first comma, and nothing where there is none
abbrev pub behind_comma : List ℕ → List ℕ
behind_comma [] = []
behind_comma (byte ∷ text) = if byte == comma then text else behind_comma text

-- what stands behind the first group of a text and the comma behind it
abbrev pub behind_group : List ℕ → List ℕ
behind_group text = behind_comma (behind is_separator text)

-- A text stands in a value as its first group: separators before it, and behind it a comma and the rest, or the value's end.
pub record IsFirstGroup (value text rest : List ℕ) : Type 0 where
  pub gap : List ℕ
  pub ending : List ℕ
  pub whole : value ≡ gap ++ (text ++ (ending ++ rest))
  pub separators : list_all is_separator gap ≡ true
  pub unmarked : has_none comma text ≡ true
  pub full : is_empty_group text ≡ false
  pub ended : (ending ≡ comma ∷ []) ⊎ ((ending ≡ []) × (rest ≡ []))

-- A value is these groups in order, each as the first of what is left, and then the rest.
abbrev pub Answered : List ℕ → List (List Relationship) → List ℕ → Type 0
Answered value [] rest = value ≡ rest
Answered value (group ∷ groups) rest =
    (text : List ℕ) × (more : List ℕ) × IsFirstGroup value text more × (items_of text ≡ group) × Answered more groups rest
