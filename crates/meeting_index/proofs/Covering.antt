-- Bounds and items that imply others.
use Rattle.std.proofs.Common.{◌≡◌, ℕ, ◌+◌, map, nat_eq, ◌∙◌, ap, sym, refl, List, [], ◌∷◌, Bool, true, false, ◌&&◌, ◌||◌, Option, Some, None, inl, inr}
use Rattle.std.specs.List.{flat_map, list_any}
use Rattle.std.specs.List.Sorted.{IsPermutation}
use Rattle.std.specs.Option.{ForSome}
use Rattle.std.proofs.lemmas.List.Folds.{list_any-append}
use Rattle.std.proofs.lemmas.List.Sorted.{list_any-IsPermutation}
use Rattle.lists.specs.Sets.{has}
use Rattle.std.specs.Ordering.{is_eq, is_ge, is_le, ordering_reverse}
use Rattle.std.specs.declared.cmp.Ordering.{Ordering}
use Rattle.std.specs.declared.cmp.Ordering.TheVariants.{Less, Equal, Greater}
use Rattle.std.proofs.lemmas.Bool.{and_from, and_parts, or_cases}
use Rattle.deb_version.specs.Versions.{Parts}
use Rattle.deb_version.specs.VersionOrder.{version_order}
use Rattle.deb_version.proofs.Keys.{version_order-preorder}
use Rattle.dep_fields.specs.Operators.{holds}
use Rattle.dep_fields.specs.Relationships.{Relationship, VersionBound, meaning}
use Rattle.dep_fields.specs.declared.Item.{Item}
use Rattle.dep_fields.specs.declared.Op.{Op}
use Rattle.dep_fields.specs.declared.Op.TheVariants as op
use Rattle.universe_model.proofs.Orders.{order-total}
use Rattle.universe_model.specs.Meeting.{is_plain, is_provided_by, is_provided_within, is_within, meets, meets_by_name, meets_by_provides}
use Rattle.universe_model.specs.Versions.{Release, Version, is_release_with}
use Rattle.ascii.specs.Texts.{is_same}
use Rattle.meeting_index.specs.Covered.{Implies, ImpliesBound, IsCovered}
use Rattle.meeting_index.specs.Carriers.{carried}
use Rattle.meeting_index.specs.Numbers.{numbers_from}
use Rattle.meeting_index.proofs.CarrierLists.{has-carried, has-plain}
use Rattle.meeting_index.proofs.Numbers.{has-numbers_from}
use Rattle.meeting_index.specs.Spans.{span_of}
use Rattle.meeting_index.specs.declared.keys.Span.TheVariants as span
use Rattle.meeting_index.proofs.SideLaws.{down, up}

-- ---- bounds

-- the operator that says the same of the other side
abbrev turned : Op → Op
turned op.Less = op.More
turned op.AtMost = op.AtLeast
turned op.Equal = op.Equal
turned op.AtLeast = op.AtMost
turned op.More = op.Less

holds-turned : (o : Op) (r : Ordering) → holds (turned o) (ordering_reverse r) ≡ holds o r
holds-turned op.Less Less = refl
holds-turned op.Less Equal = refl
holds-turned op.Less Greater = refl
holds-turned op.AtMost Less = refl
holds-turned op.AtMost Equal = refl
holds-turned op.AtMost Greater = refl
holds-turned op.Equal Less = refl
holds-turned op.Equal Equal = refl
holds-turned op.Equal Greater = refl
holds-turned op.AtLeast Less = refl
holds-turned op.AtLeast Equal = refl
holds-turned op.AtLeast Greater = refl
holds-turned op.More Less = refl
holds-turned op.More Equal = refl
holds-turned op.More Greater = refl

-- seen from the version of the bound
turn : (o : Op) (p v : Parts) → holds (turned o) (version_order v p) ≡ holds o (version_order p v)
turn o p v =
    ap (holds (turned o)) ((order-total version_order version_order-preorder).antisymm v p) ∙ holds-turned o (version_order p v)

turned-later : (o : Op) → span_of o ≡ span.Later → holds (turned o) Less ≡ true
turned-later op.Less e = absurd (cc)
turned-later op.AtMost e = absurd (cc)
turned-later op.Equal e = absurd (cc)
turned-later op.AtLeast e = refl
turned-later op.More e = refl

turned-earlier : (o : Op) → span_of o ≡ span.Earlier → holds (turned o) Greater ≡ true
turned-earlier op.Less e = refl
turned-earlier op.AtMost e = refl
turned-earlier op.Equal e = absurd (cc)
turned-earlier op.AtLeast e = absurd (cc)
turned-earlier op.More e = absurd (cc)

le-back : (r : Ordering) → is_le r ≡ true → is_ge (ordering_reverse r) ≡ true
le-back Less e = refl
le-back Equal e = refl
le-back Greater e = absurd (cc)

ge-back : (r : Ordering) → is_ge r ≡ true → is_le (ordering_reverse r) ≡ true
ge-back Less e = absurd (cc)
ge-back Equal e = refl
ge-back Greater e = refl

eq-equal : (r : Ordering) → is_eq r ≡ true → r ≡ Equal
eq-equal Less e = absurd (cc)
eq-equal Equal e = refl
eq-equal Greater e = absurd (cc)

-- what is past w is past v
pub later-implied : (o : Op) (v w : Parts) → span_of o ≡ span.Later → is_le (version_order v w) ≡ true
    → (p : Parts) → holds o (version_order p w) ≡ true → holds o (version_order p v) ≡ true
later-implied o v w is le p h =
    sym (turn o p v)
    ∙ down (turned o) w v p (ap is_ge ((order-total version_order version_order-preorder).antisymm w v) ∙ le-back (version_order v w) le) (turned-later o is) (turn o p w ∙ h)

pub earlier-implied : (o : Op) (v w : Parts) → span_of o ≡ span.Earlier → is_ge (version_order v w) ≡ true
    → (p : Parts) → holds o (version_order p w) ≡ true → holds o (version_order p v) ≡ true
earlier-implied o v w is ge p h =
    sym (turn o p v)
    ∙ up (turned o) w v p (ap is_le ((order-total version_order version_order-preorder).antisymm w v) ∙ ge-back (version_order v w) ge) (turned-earlier o is) (turn o p w ∙ h)

pub equal-implied : (o : Op) (v w : Parts) → is_eq (version_order v w) ≡ true → (p : Parts) → holds o (version_order p w) ≡ true → holds o (version_order p v) ≡ true
equal-implied o v w same p h =
    sym (turn o p v)
    ∙ ap (holds (turned o)) ((order-total version_order version_order-preorder).congr v w p (eq-equal (version_order v w) same))
    ∙ turn o p w
    ∙ h

-- ---- items

module _ {A : Type 0} where
  pub any-weaker : (f g : A → Bool) → ((x : A) → f x ≡ true → g x ≡ true) → (xs : List A) → list_any f xs ≡ true → list_any g xs ≡ true
  any-weaker f g weaker [] h = h
  any-weaker f g weaker (x ∷ xs) h =
      elim (or_cases (f x) (list_any f xs) h) as (λ _. (g x || list_any g xs) ≡ true) [
        | inl first ↦ ap (λ b. b || list_any g xs) (weaker x first)
        | inr rest ↦ or-second (g x) (list_any g xs) (any-weaker f g weaker xs rest)
      ]
    where
      or-second : (a b : Bool) → b ≡ true → (a || b) ≡ true
      or-second true b e = refl
      or-second false b e = e

provided-weaker : (a b : Option VersionBound) → ImpliesBound a b → (given : Option VersionBound) → is_provided_within a given ≡ true → is_provided_within b given ≡ true
provided-weaker a None implies given h = refl
provided-weaker None (Some b) implies given h = absurd implies
provided-weaker (Some a) (Some b) implies None h = absurd (cc)
provided-weaker (Some a) (Some b) implies (Some given) h = implies given.parts h

within-weaker : (a b : Option VersionBound) → ImpliesBound a b → (p : Parts) → is_within a p ≡ true → is_within b p ≡ true
within-weaker a None implies p h = refl
within-weaker None (Some b) implies p h = absurd implies
within-weaker (Some a) (Some b) implies p h = implies p h

or-both : (a b c d : Bool) → (a ≡ true → c ≡ true) → (b ≡ true → d ≡ true) → (a || b) ≡ true → (c || d) ≡ true
or-both true b c d first second h = ap (λ x. x || d) (first refl)
or-both false b true d first second h = refl
or-both false b false d first second h = second h

release-weaker : (native name : List ℕ) (a b : Relationship) → a.name ≡ b.name → ImpliesBound a.rel b.rel → (release : Option Release)
    → is_release_with (λ r. meets_by_name a name r || meets_by_provides native a r) release ≡ true
    → is_release_with (λ r. meets_by_name b name r || meets_by_provides native b r) release ≡ true
release-weaker native name a b same implies None h = absurd (cc)
release-weaker native name a b same implies (Some r) h =
    or-both (meets_by_name a name r) (meets_by_provides native a r) (meets_by_name b name r) (meets_by_provides native b r)
    (λ e.
    let parts = and_parts (is_same name a.name) (is_within a.rel r.parts) e in
    and_from (is_same name b.name) (is_within b.rel r.parts) (ap (is_same name) (sym same) ∙ parts.0) (within-weaker a.rel b.rel implies r.parts parts.1))
    (any-weaker (λ group. list_any (is_provided_by native a) group) (λ group. list_any (is_provided_by native b) group)
    (λ group. any-weaker (is_provided_by native a) (is_provided_by native b)
    (λ given e.
    let parts = and_parts (is_same given.name a.name) (is_plain native given.arch && is_provided_within a.rel given.rel) e in
    let more = and_parts (is_plain native given.arch) (is_provided_within a.rel given.rel) parts.1 in
    and_from (is_same given.name b.name) (is_plain native given.arch && is_provided_within b.rel given.rel) (ap (is_same given.name) (sym same) ∙ parts.0)
    (and_from (is_plain native given.arch) (is_provided_within b.rel given.rel) more.0 (provided-weaker a.rel b.rel implies given.rel more.1))) group)
    r.provides) h

-- an item of the same name without an architecture, and with a bound that is no stricter
pub implies-item : (a b : Relationship) → a.name ≡ b.name → b.arch ≡ None → ImpliesBound a.rel b.rel → Implies a b
implies-item a b same plain implies = λ native v h.
    let parts = and_parts (is_plain native a.arch) (is_release_with (λ r. meets_by_name a v.name r || meets_by_provides native a r) v.release) h in
    and_from (is_plain native b.arch) (is_release_with (λ r. meets_by_name b v.name r || meets_by_provides native b r) v.release)
    (ap (is_plain native) plain) (release-weaker native v.name a b same implies v.release parts.1)

-- ---- what is found for items

-- where a test is weaker, it finds all numbers of the other
numbers-weaker : {A : Type 0} (f g : A → Bool) → ((x : A) → f x ≡ true → g x ≡ true) → (n : ℕ) (xs : List A) (c : ℕ)
    → has (numbers_from n f xs) c ≡ true → has (numbers_from n g xs) c ≡ true
numbers-weaker f g weaker n [] c h = h
numbers-weaker f g weaker n (x ∷ xs) c h =
    has-numbers_from n g x xs c
    ∙ or-both (f x && nat_eq n c) (has (numbers_from (n + 1) f xs) c) (g x && nat_eq n c) (has (numbers_from (n + 1) g xs) c)
    (λ e. let parts = and_parts (f x) (nat_eq n c) e in and_from (g x) (nat_eq n c) (weaker x parts.0) parts.1)
    (numbers-weaker f g weaker (n + 1) xs c)
    (sym (has-numbers_from n f x xs c) ∙ h)

or-again : (a b c : Bool) → (b ≡ true → c ≡ true) → (a || c) ≡ a → (a || b) ≡ a
or-again true b c h e = refl
or-again false true c h e = sym (h refl) ∙ e
or-again false false c h e = refl

-- what the last item finds was found, and so what one finds that it covers
pub found-covered : (native : List ℕ) (vs : List Version) (last : Option Item) (item : Relationship) (met : List ℕ)
    → ForSome last (λ x. (c : ℕ) → (has met c || has (carried native vs (meaning x)) c) ≡ has met c) → IsCovered last item
    → (c : ℕ) → (has met c || has (carried native vs item) c) ≡ has met c
found-covered native vs None item met h covered = absurd covered
found-covered native vs (Some x) item met h covered = λ c.
    or-again (has met c) (has (carried native vs item) c) (has (carried native vs (meaning x)) c)
    (λ e.
    has-carried native vs (meaning x) c
    ∙ numbers-weaker (meets native item) (meets native (meaning x)) (covered native) 0 vs c (sym (has-carried native vs item c) ∙ e))
    (h x refl c)

-- an item with no architecture is met as one with a plain one
pub carried-plain : (native : List ℕ) (vs : List Version) (name : List ℕ) (arch : Option (List ℕ)) (rel : Option VersionBound) (c : ℕ) → is_plain native arch ≡ true
    → has (carried native vs (record { name = name; arch = None; rel = rel })) c ≡ has (carried native vs (record { name = name; arch = arch; rel = rel })) c
carried-plain native vs name arch rel c plain =
    has-plain native vs (record { name = name; arch = None; rel = rel }) c refl ∙ sym (has-plain native vs (record { name = name; arch = arch; rel = rel }) c plain)

-- items in another order
pub carried-moved : (native : List ℕ) (vs : List Version) (xs ys : List Item) → IsPermutation xs ys → (c : ℕ)
    → has (flat_map (carried native vs) (map meaning ys)) c ≡ has (flat_map (carried native vs) (map meaning xs)) c
carried-moved native vs xs ys moved c =
    each ys ∙ sym (list_any-IsPermutation (λ (x : Item). has (carried native vs (meaning x)) c) xs ys moved) ∙ sym (each xs)
  where
    each : (zs : List Item) → has (flat_map (carried native vs) (map meaning zs)) c ≡ list_any (λ (x : Item). has (carried native vs (meaning x)) c) zs
    each [] = refl
    each (z ∷ zs) =
        list_any-append (λ x. nat_eq x c) (carried native vs (meaning z)) (flat_map (carried native vs) (map meaning zs))
        ∙ ap (λ b. has (carried native vs (meaning z)) c || b) (each zs)
