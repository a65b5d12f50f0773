-- Which carriers are within a bound, where they stand in order.
use Rattle.std.proofs.Common.{◌≡◌, suc, ◌≤◌, ◌<◌, ◌+◌, ◌-◌, ℕ, ◌∙◌, ap, sym, refl, List, [], ◌∷◌, Bool, true, false, cond, not, ◌&&◌, arith, length, length-drop, get_or, take, drop, subst}
use Rattle.std.specs.List.{dedup, filter}
use Rattle.std.specs.List.Sorted.{IsNonDecreasingBy, IsPartitionPoint, IsPartitionedBy, IsSorted, IsStrictlySortedBy}
use Rattle.std.proofs.lemmas.List.Kept.{IsStrictlySortedBy-dedup}
use Rattle.std.proofs.lemmas.Map.Keys.{Less-from_sorted}
use Rattle.meeting_index.specs.CarriedLaws.{carried_order-total}
use Rattle.std.proofs.lemmas.List.{get_or-drop}
use Rattle.std.proofs.lemmas.List.Elements.{filter_agree}
use Rattle.std.proofs.lemmas.List.Sorted.{searchable_from_sorted}
use Rattle.std.specs.Ordering.{is_eq, is_le, is_lt, ordering_index, ordering_reverse, ordering_then, nat_cmp}
use Rattle.std.specs.declared.cmp.Ordering.{Ordering}
use Rattle.std.specs.declared.cmp.Ordering.TheVariants.{Less, Equal, Greater}
use Rattle.deb_version.specs.Versions.{Parts}
use Rattle.deb_version.specs.VersionOrder.{version_order}
use Rattle.deb_version.specs.declared.Version.{Version}
use Rattle.deb_version.proofs.Keys.{version_order-preorder}
use Rattle.dep_fields.specs.Operators.{holds}
use Rattle.dep_fields.specs.Relationships.{bound_of}
use Rattle.dep_fields.specs.declared.Op.{Op}
use Rattle.dep_fields.specs.declared.Op.TheVariants as op
use Rattle.universe_model.proofs.Orders.{order-total}
use Rattle.meeting_index.specs.Fitting.{carried_order, carried_parts, fits, version_parts}
use Rattle.meeting_index.specs.declared.carried.Carried.{Carried}
use Rattle.meeting_index.proofs.CrowdLaws.{parts-read}
use Rattle.meeting_index.proofs.NamedRuns.{filter-past, filter-run, le-down, lt-down}

-- ---- the order of carriers is that of their versions

lt-first : (o n : Ordering) → is_lt (ordering_then o n) ≡ false → is_lt o ≡ false
lt-first Less n e = e
lt-first Equal n e = refl
lt-first Greater n e = refl

rises : (p : Parts) (xs : List Carried) → IsSorted carried_order xs → IsNonDecreasingBy (λ y. ordering_index (version_order (carried_parts y) p)) xs
rises p xs sorted =
    searchable_from_sorted (order-total version_order version_order-preorder) carried_parts xs p
    (λ k d low lt.
    lt-first (version_order (carried_parts (get_or xs (k + 1) d)) (carried_parts (get_or xs k d))) (nat_cmp (get_or xs (k + 1) d).number (get_or xs k d).number) (sorted k d low lt))

pub parted-earlier : (p : Parts) (xs : List Carried) → IsSorted carried_order xs → IsPartitionedBy (λ y. is_lt (version_order (carried_parts y) p)) xs
parted-earlier p xs sorted = λ i j d le lt e.
    lt-down (version_order (carried_parts (get_or xs i d)) p) (version_order (carried_parts (get_or xs j d)) p) (rises p xs sorted i j d le lt) e

pub parted-not_later : (p : Parts) (xs : List Carried) → IsSorted carried_order xs → IsPartitionedBy (λ y. is_le (version_order (carried_parts y) p)) xs
parted-not_later p xs sorted = λ i j d le lt e.
    le-down (version_order (carried_parts (get_or xs i d)) p) (version_order (carried_parts (get_or xs j d)) p) (rises p xs sorted i j d le lt) e

back-again : (o : Ordering) → o ≡ Less → is_lt (ordering_reverse o) ≡ false
back-again Less e = refl
back-again Equal e = absurd (cc)
back-again Greater e = absurd (cc)

-- each before the next one is in order
pub sorted-dedup : (xs : List Carried) → IsSorted carried_order xs → IsSorted carried_order (dedup (λ x y. is_eq (carried_order x y)) xs)
sorted-dedup xs sorted = λ k d low lt.
    let ys = dedup (λ x y. is_eq (carried_order x y)) xs in
    let strict : IsStrictlySortedBy carried_order ys = IsStrictlySortedBy-dedup carried_order-total (λ x y. refl) xs sorted in
    ap is_lt (carried_order-total.antisymm (get_or ys (k + 1) d) (get_or ys k d))
    ∙ back-again (carried_order (get_or ys k d) (get_or ys (k + 1) d)) (Less-from_sorted carried_order ys k (k + 1) d strict (omega arith) lt)

-- ---- those in front of a place and those behind it

module _ {X : Type 0} (test : X → Bool) where
  pub front : (n : ℕ) (xs : List X) → IsPartitionPoint (λ x. test x ≡ true) (λ x. test x ≡ false) xs n → take n xs ≡ filter test xs
  front n xs point = sym (filter-run test n xs (λ k d lt in_list. point.0 k d (omega arith) lt) (λ k d le in_list. point.1 k d le in_list))

  -- all pass
  filter-all : (xs : List X) → ((k : ℕ) (d : X) → k < length xs → test (get_or xs k d) ≡ true) → filter test xs ≡ xs
  filter-all [] pass = refl
  filter-all (x ∷ xs) pass =
      ap (λ b. cond b (x ∷ filter test xs) (filter test xs)) (pass 0 x (omega arith))
      ∙ ap (λ ys. x ∷ ys) (filter-all xs (λ k d lt. pass (suc k) d (omega arith)))

module _ {X : Type 0} (test : X → Bool) where
  pub rest : (n : ℕ) (xs : List X) → n ≤ length xs → IsPartitionPoint (λ x. test x ≡ true) (λ x. test x ≡ false) xs n → drop n xs ≡ filter (λ x. not (test x)) xs
  rest n xs within point =
      sym (filter-past (λ x. not (test x)) n xs within (λ k d lt. ap not (point.0 k d (omega arith) lt))
      ∙ filter-all (λ x. not (test x)) (drop n xs)
      (λ k d lt.
      let long : k < length xs - n = subst (λ m. k < m) (length-drop n xs) lt in
      ap (λ x. not (test x)) (get_or-drop n xs k d) ∙ ap not (point.1 (n + k) d (omega arith) (omega arith))))

both-cases : {X : Type 0} (p q : X → Bool) (x : X) (xs : List X) (a b : Bool) → q x ≡ b
    → filter q (filter p xs) ≡ filter (λ y. p y && q y) xs
    → filter q (cond a (x ∷ filter p xs) (filter p xs)) ≡ cond (a && b) (x ∷ filter (λ y. p y && q y) xs) (filter (λ y. p y && q y) xs)
both-cases p q x xs true true e same = ap (λ b. cond b (x ∷ filter q (filter p xs)) (filter q (filter p xs))) e ∙ ap (λ ys. x ∷ ys) same
both-cases p q x xs true false e same = ap (λ b. cond b (x ∷ filter q (filter p xs)) (filter q (filter p xs))) e ∙ same
both-cases p q x xs false b e same = same

filter-both : {X : Type 0} (p q : X → Bool) (xs : List X) → filter q (filter p xs) ≡ filter (λ x. p x && q x) xs
filter-both p q [] = refl
filter-both p q (x ∷ xs) = both-cases p q x xs (p x) (q x) refl (filter-both p q xs)

-- ---- the operators

-- what a test of the order passes is within the bound of an operator that says the same
by-order : (test : Ordering → Bool) (o oper : Op) (v : Version) → ((r : Ordering) → test r ≡ holds o r) → oper ≡ o → (xs : List Carried)
    → filter (λ y. test (version_order (carried_parts y) (version_parts v))) xs ≡ filter (fits (bound_of (oper, v))) xs
by-order test o oper v same is xs =
    filter_agree (λ y. test (version_order (carried_parts y) (version_parts v))) (fits (bound_of (oper, v)))
    (λ y.
    same (version_order (carried_parts y) (version_parts v))
    ∙ ap (λ p. holds p (version_order (carried_parts y) (version_parts v))) (sym is)
    ∙ ap (λ p. holds oper (version_order (carried_parts y) p)) (sym (parts-read v))) xs

is-less : (r : Ordering) → is_lt r ≡ holds op.Less r
is-less Less = refl
is-less Equal = refl
is-less Greater = refl

is-at_most : (r : Ordering) → is_le r ≡ holds op.AtMost r
is-at_most Less = refl
is-at_most Equal = refl
is-at_most Greater = refl

is-equal : (r : Ordering) → (not (is_lt r) && is_le r) ≡ holds op.Equal r
is-equal Less = refl
is-equal Equal = refl
is-equal Greater = refl

is-at_least : (r : Ordering) → not (is_lt r) ≡ holds op.AtLeast r
is-at_least Less = refl
is-at_least Equal = refl
is-at_least Greater = refl

is-more : (r : Ordering) → not (is_le r) ≡ holds op.More r
is-more Less = refl
is-more Equal = refl
is-more Greater = refl

pub less-within : (oper : Op) (v : Version) (xs : List Carried) → oper ≡ op.Less
    → filter (λ y. is_lt (version_order (carried_parts y) (version_parts v))) xs ≡ filter (fits (bound_of (oper, v))) xs
less-within oper v xs is = by-order is_lt op.Less oper v is-less is xs

pub at_most-within : (oper : Op) (v : Version) (xs : List Carried) → oper ≡ op.AtMost
    → filter (λ y. is_le (version_order (carried_parts y) (version_parts v))) xs ≡ filter (fits (bound_of (oper, v))) xs
at_most-within oper v xs is = by-order is_le op.AtMost oper v is-at_most is xs

pub equal-within : (oper : Op) (v : Version) (xs : List Carried) → oper ≡ op.Equal
    → filter (λ y. is_le (version_order (carried_parts y) (version_parts v))) (filter (λ y. not (is_lt (version_order (carried_parts y) (version_parts v)))) xs)
    ≡ filter (fits (bound_of (oper, v))) xs
equal-within oper v xs is =
    filter-both (λ y. not (is_lt (version_order (carried_parts y) (version_parts v)))) (λ y. is_le (version_order (carried_parts y) (version_parts v))) xs
    ∙ by-order (λ r. not (is_lt r) && is_le r) op.Equal oper v is-equal is xs

pub at_least-within : (oper : Op) (v : Version) (xs : List Carried) → oper ≡ op.AtLeast
    → filter (λ y. not (is_lt (version_order (carried_parts y) (version_parts v)))) xs ≡ filter (fits (bound_of (oper, v))) xs
at_least-within oper v xs is = by-order (λ r. not (is_lt r)) op.AtLeast oper v is-at_least is xs

pub more-within : (oper : Op) (v : Version) (xs : List Carried) → oper ≡ op.More
    → filter (λ y. not (is_le (version_order (carried_parts y) (version_parts v)))) xs ≡ filter (fits (bound_of (oper, v))) xs
more-within oper v xs is = by-order (λ r. not (is_le r)) op.More oper v is-more is xs
