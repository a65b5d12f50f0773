-- Items with one key are met by the same versions.
use Rattle.std.proofs.Common.{◌≡◌, ◌+◌, ℕ, suc, ◌∙◌, ap, sym, refl, subst, List, [], ◌∷◌, Bool, true, ◌&&◌, nat_eq, Option, Some, None, inl, inr, arith, add-zero, zero-add}
use Rattle.std.specs.Cmp.{both_ways}
use Rattle.std.specs.List.{list_any, slice_get}
use Rattle.std.proofs.lemmas.Bool.{and_parts, eqb-true, or_cases}
use Rattle.lists.specs.Sets.{has}
use Rattle.lists.proofs.Sets.{rising_same}
use Rattle.dep_fields.specs.Relationships.{Relationship, VersionBound}
use Rattle.dep_fields.specs.declared.Op.{Op}
use Rattle.dep_fields.specs.declared.Op.TheVariants as op
use Rattle.universe_model.specs.Lists.{numbers_of}
use Rattle.universe_model.specs.Meeting.{is_plain, meets}
use Rattle.universe_model.specs.Versions.{Version}
use Rattle.meeting_index.specs.Carriers.{Carrier, carriers, is_named}
use Rattle.meeting_index.specs.Crowds.{HasEdge, IsRealCrowd, crowd_has, crowds_have, kept_has, meets_under}
use Rattle.meeting_index.specs.Fitting.{fits}
use Rattle.meeting_index.specs.Indexes.{Indexed}
use Rattle.meeting_index.specs.Keys.{Asks, IsKeyOf, is_inside}
use Rattle.meeting_index.specs.Numbers.{numbers_from}
use Rattle.meeting_index.specs.Spans.{span_at, span_of}
use Rattle.meeting_index.specs.declared.crowds.Crowds.{Crowds}
use Rattle.meeting_index.specs.declared.keys.AnswerKey.{AnswerKey}
use Rattle.meeting_index.specs.declared.keys.Span.TheVariants as span
use Rattle.meeting_index.proofs.CarrierLists.{has-carried, has-plain}
use Rattle.meeting_index.proofs.NamedRuns.{same-bytes}
use Rattle.meeting_index.proofs.Numbers.{has-numbers_from, numbers_from-rising}

-- ---- the law of keys

some-same : {A : Type 0} (o : Option A) (x y : A) → o ≡ Some x → o ≡ Some y → x ≡ y
some-same o x y e f = cc

answers-within : (index : Indexed) (a b : Relationship) (key : AnswerKey) → IsKeyOf index a key → IsKeyOf index b key → (c : ℕ)
    → has (numbers_of (meets index.native a) index.versions) c ≡ true → has (numbers_of (meets index.native b) index.versions) c ≡ true
answers-within index a b key of_a of_b c met =
    of_a.least b
    (subst (λ (carrier : Carrier). Asks index.native carrier key.span b) (some-same (slice_get (carriers index.native index.versions) key.carrier) of_b.carrier of_a.carrier of_b.is of_a.is) of_b.asks)
    c met

pub same-answers : (index : Indexed) (a b : Relationship) (key : AnswerKey) → IsKeyOf index a key → IsKeyOf index b key
    → numbers_of (meets index.native a) index.versions ≡ numbers_of (meets index.native b) index.versions
same-answers index a b key of_a of_b =
    let first = numbers_of (meets index.native a) index.versions in
    let second = numbers_of (meets index.native b) index.versions in
    rising_same first second (numbers_from-rising 0 (meets index.native a) index.versions) (numbers_from-rising 0 (meets index.native b) index.versions)
    (λ c. both_ways (has first c) (has second c) (answers-within index a b key of_a of_b c) (answers-within index b a key of_b of_a c))

-- ---- the carrier with a number

pub number-of : {A : Type 0} (test : A → Bool) (n : ℕ) (xs : List A) (c : ℕ) → has (numbers_from n test xs) c ≡ true
    → (k : ℕ) × (x : A) × (c ≡ n + k) × (slice_get xs k ≡ Some x) × (test x ≡ true)
number-of test n [] c h = absurd (cc)
number-of {A} test n (x ∷ xs) c h =
    elim (or_cases (test x && nat_eq n c) (has (numbers_from (n + 1) test xs) c) (sym (has-numbers_from n test x xs c) ∙ h))
    as (λ _. (k : ℕ) × (y : A) × (c ≡ n + k) × (slice_get (x ∷ xs) k ≡ Some y) × (test y ≡ true)) [
      | inl here ↦ let parts = and_parts (test x) (nat_eq n c) here in (0, x, sym (eqb-true n c parts.1) ∙ sym (add-zero n), refl, parts.0)
      | inr later ↦ let found = number-of test (n + 1) xs c later in
          (suc found.0, found.1, found.2 ∙ (let next : n + 1 + found.0 ≡ n + suc found.0 = omega arith in next), found.3, found.4)
    ]

-- ---- the key of an item of a crowded name

no-span : (o : Op) → span.All ≡ span_of o → ⊥
no-span op.Less e = cc
no-span op.AtMost e = cc
no-span op.Equal e = cc
no-span op.AtLeast e = cc
no-span op.More e = cc

module _ (native : List ℕ) (vs : List Version) (crowds : Crowds) (name : List ℕ)
    (met : (bound : Option VersionBound) (c : ℕ) → crowds_have crowds name bound c ≡ list_any (meets_under name bound c) (carriers native vs)) where
  -- what the crowd has for an item of the name
  pub asked : (item : Relationship) → is_plain native item.arch ≡ true → item.name ≡ name → (c : ℕ) → crowds_have crowds name item.rel c ≡ has (numbers_of (meets native item) vs) c
  asked item plain e c =
      met item.rel c
      ∙ ap (λ n. list_any (meets_under n item.rel c) (carriers native vs)) (sym e)
      ∙ sym (has-plain native vs item c plain)
      ∙ has-carried native vs item c

  same-name : (carrier : Carrier) (a b : List ℕ) → is_named a carrier ≡ true → is_named b carrier ≡ true → b ≡ a
  same-name carrier a b e f = sym (same-bytes carrier.name b f) ∙ same-bytes carrier.name a e

  -- without a bound
  all-least : (item other : Relationship) (carrier : Carrier) → is_plain native item.arch ≡ true → item.name ≡ name → item.rel ≡ None → is_named name carrier ≡ true
      → (rel : Option VersionBound) → other.rel ≡ rel → Asks native carrier span.All other
      → (c : ℕ) → has (numbers_of (meets native item) vs) c ≡ true → has (numbers_of (meets native other) vs) c ≡ true
  all-least item other carrier plain e none named None is asks c h =
      sym (asked other asks.plain (same-name carrier name other.name named asks.named) c)
      ∙ ap (λ rel. crowds_have crowds name rel c) (is ∙ sym none)
      ∙ asked item plain e c
      ∙ h
  all-least item other carrier plain e none named (Some bound) is asks c h = absurd (no-span bound.op (sym asks.span ∙ ap span_at is))

  pub key-of-all : (item : Relationship) (number : ℕ) → is_plain native item.arch ≡ true → item.name ≡ name → item.rel ≡ None
      → has (numbers_of (is_named name) (carriers native vs)) number ≡ true
      → IsKeyOf (record { native = native; versions = vs }) item (record { span = span.All; carrier = number })
  key-of-all item number plain e none among =
      let found = number-of (is_named name) 0 (carriers native vs) number among in
      record {
        carrier = found.1;
        is = ap (slice_get (carriers native vs)) (found.2 ∙ zero-add found.0) ∙ found.3;
        asks = record {
          plain = plain;
          named = ap (λ n. is_named n found.1) e ∙ found.4;
          inside = ap (is_inside found.1) none;
          span = ap span_at none;
        };
        least = λ other asks c h. all-least item other found.1 plain e none found.4 other.rel refl asks c h;
      }

  -- with one
  bound-least : (item other : Relationship) (carrier : Carrier) (bound : VersionBound) (number : ℕ) (edge : HasEdge crowds name bound number)
      → is_plain native item.arch ≡ true → item.name ≡ name → item.rel ≡ Some bound → is_named name carrier ≡ true
      → ((other : VersionBound) → carrier.passes (Some other) ≡ fits other edge.edge.carried)
      → (rel : Option VersionBound) → other.rel ≡ rel → Asks native carrier (span_of bound.op) other
      → (c : ℕ) → has (numbers_of (meets native item) vs) c ≡ true → has (numbers_of (meets native other) vs) c ≡ true
  bound-least item other carrier bound number edge plain e some named passes None is asks c h = absurd (no-span bound.op (sym (ap span_at is) ∙ asks.span))
  bound-least item other carrier bound number edge plain e some named passes (Some limit) is asks c h =
      let old : crowd_has edge.crowd (Some bound) c ≡ true =
      sym (ap (λ o. kept_has o (Some bound) c) edge.is) ∙ ap (λ rel. crowds_have crowds name rel c) (sym some) ∙ asked item plain e c ∙ h in
      let inside : fits limit edge.edge.carried ≡ true = sym (passes limit) ∙ sym (ap (is_inside carrier) is) ∙ asks.inside in
      sym (asked other asks.plain (same-name carrier name other.name named asks.named) c)
      ∙ ap (λ rel. crowds_have crowds name rel c) is
      ∙ ap (λ o. kept_has o (Some limit) c) edge.is
      ∙ edge.edge.least limit (sym (ap span_at is) ∙ asks.span) inside c old

  pub key-of-bound : (item : Relationship) (bound : VersionBound) (number : ℕ) (numbers : List ℕ) (edge : HasEdge crowds name bound number)
      → IsRealCrowd (carriers native vs) numbers edge.crowd
      → ((c : ℕ) → has numbers c ≡ has (numbers_of (is_named name) (carriers native vs)) c)
      → is_plain native item.arch ≡ true → item.name ≡ name → item.rel ≡ Some bound
      → IsKeyOf (record { native = native; versions = vs }) item (record { span = span_of bound.op; carrier = number })
  key-of-bound item bound number numbers edge real listed plain e some =
      let y = edge.edge.carried in
      let is_real = real y edge.edge.there in
      let carrier = is_real.carrier in
      let found = number-of (is_named name) 0 (carriers native vs) y.carrier (sym (listed y.carrier) ∙ is_real.among) in
      let there : slice_get (carriers native vs) y.carrier ≡ Some found.1 = ap (slice_get (carriers native vs)) (found.2 ∙ zero-add found.0) ∙ found.3 in
      let same : found.1 ≡ carrier = some-same (slice_get (carriers native vs) y.carrier) found.1 carrier there is_real.is in
      let named : is_named name carrier ≡ true = ap (is_named name) (sym same) ∙ found.4 in
      record {
        carrier = carrier;
        is = ap (slice_get (carriers native vs)) (sym edge.edge.is) ∙ is_real.is;
        asks = record {
          plain = plain;
          named = ap (λ n. is_named n carrier) e ∙ named;
          inside = ap (is_inside carrier) some ∙ is_real.stands.passes bound ∙ edge.edge.within;
          span = ap span_at some;
        };
        least = λ other asks c h. bound-least item other carrier bound number edge plain e some named is_real.stands.passes other.rel refl asks c h;
      }
