-- A relationship field has no more groups than bytes, and one.
use Rattle.std.proofs.Common.{ℕ, ◌+◌, ◌≤◌, Bool, true, false, cond, List, [], ◌∷◌, length, arith, Some, None, Option, ◌==◌}
use Rattle.std.proofs.lemmas.List.Sums.{count_by-le-length}
use Rattle.std.proofs.lemmas.List.Splits.{length-slice_split}
use Rattle.dep_fields.specs.declared.RelFault.{RelFault}
use Rattle.dep_fields.specs.Relationships.{Relationship}
use Rattle.dep_fields.specs.Fields.{Field, Span, pieces, comma, bar, is_empty_group, spans_in, spans_of, first_fault, items_of, with_group, field_in, field_of}
use Rattle.universe_model.specs.Versions.{groups_of}

with_group-few : (fault : Option RelFault) (group : List Relationship) (field : Field) (n : ℕ) → length field.groups ≤ n → length (with_group fault group field).groups ≤ n + 1
with_group-few None group field n h = omega arith
with_group-few (Some fault) group field n h = omega arith

field_in-few : (alternatives : Bool) (spans : List Span) → length (field_in alternatives spans).groups ≤ length spans
field_in-few alternatives [] = omega arith
field_in-few alternatives (span ∷ spans) =
    let more = with_group-few (first_fault alternatives span.at (pieces bar span.text)) (items_of span.text) (field_in alternatives spans) (length spans) (field_in-few alternatives spans) in
    omega (arith, more)

spans_in-few : (at : ℕ) (parts : List (List ℕ)) → length (spans_in at parts) ≤ length parts
spans_in-few at [] = omega arith
spans_in-few at (part ∷ parts) = by (is_empty_group part) (spans_in-few (at + length part + 1) parts)
  where
    by : (b : Bool) → length (spans_in (at + length part + 1) parts) ≤ length parts
        → length (cond b (spans_in (at + length part + 1) parts) (record { at = at; text = part } ∷ spans_in (at + length part + 1) parts)) ≤ length (part ∷ parts)
    by true h = omega arith
    by false h = omega arith

pub groups_of-few : (value : List ℕ) → length (groups_of value) ≤ length value + 1
unfolding field_of
groups_of-few value =
    omega (arith, field_in-few true (spans_of value), spans_in-few 0 (pieces comma value), length-slice_split (λ byte. byte == comma) value, count_by-le-length (λ byte. byte == comma) value)
