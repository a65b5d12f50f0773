-- What the answer to an item is known by.
use Rattle.std.specs.Prelude.{◌≡◌, ℕ, List, Bool, true, Option, Some, None}
use Rattle.std.specs.List.{slice_get}
use Rattle.lists.specs.Sets.{has}
use Rattle.dep_fields.specs.Relationships.{Relationship, VersionBound}
use Rattle.universe_model.specs.Lists.{numbers_of}
use Rattle.universe_model.specs.Meeting.{is_plain, meets}
use Rattle.meeting_index.specs.Carriers.{Carrier, carriers, is_named}
use Rattle.meeting_index.specs.Indexes.{Indexed}
use Rattle.meeting_index.specs.Spans.{span_at}
use Rattle.meeting_index.specs.declared.keys.AnswerKey.{AnswerKey}
use Rattle.meeting_index.specs.declared.keys.Span.{Span}

-- whether a carrier is within a bound, if there is one
abbrev pub is_inside : Carrier → Option VersionBound → Bool
is_inside carrier None = true
is_inside carrier (Some bound) = carrier.passes (Some bound)

-- whether an item asks for a carrier, to this side
pub record Asks (native : List ℕ) (carrier : Carrier) (s : Span) (item : Relationship) : Type 0 where
  pub plain : is_plain native item.arch ≡ true
  pub named : is_named item.name carrier ≡ true
  pub inside : is_inside carrier item.rel ≡ true
  pub span : span_at item.rel ≡ s

-- an item asks for the carrier of a key, and what meets it meets all items that ask for it to the same side
pub record IsKeyOf (index : Indexed) (item : Relationship) (key : AnswerKey) : Type 0 where
  pub carrier : Carrier
  pub is : slice_get (carriers index.native index.versions) key.carrier ≡ Some carrier
  pub asks : Asks index.native carrier key.span item
  pub least : (other : Relationship) → Asks index.native carrier key.span other → (c : ℕ)
      → has (numbers_of (meets index.native item) index.versions) c ≡ true → has (numbers_of (meets index.native other) index.versions) c ≡ true
