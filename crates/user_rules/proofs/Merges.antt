-- The marks of two rising sets, taken from the front.
use Rattle.std.proofs.Common.{◌≡◌, ℕ, ◌<◌, List, [], ◌∷◌, Bool, true, false, map, length, nat_lt, nat_eq, refl, ap, arith}
use Rattle.std.specs.List.{list_all}
use Rattle.std.proofs.lemmas.List.{nil_from_length}
use Rattle.std.proofs.lemmas.Bool.{and_from, and_parts, lt-ltb, le-ltb, ltb-true, eq-eqb, ne_eqb}
use Rattle.lists.proofs.Tests.{list_all_weaker}
use Rattle.lists.proofs.With.{list_all-union}
use Rattle.lists.specs.Sets.{has, with, union, is_rising}
use Rattle.resolver_model.specs.Rules.{Rules, mark_of}
use Rattle.resolver_model.specs.declared.marks.Mark.{Mark}
use Rattle.resolver_model.specs.declared.marks.Mark.TheVariants.{Approved, Rejected}
use Rattle.user_rules.specs.Merging.{marks_in}

abbrev pub rules_of : List ℕ → List ℕ → Rules
rules_of approved rejected = record { approved = approved; rejected = rejected; caps = [] }

abbrev pub with_mark : List ℕ → List ℕ → ℕ → ℕ × Mark
with_mark approved rejected c = (c, mark_of (rules_of approved rejected) c)

abbrev below_all : ℕ → List ℕ → Bool
below_all x xs = list_all (λ y. nat_lt x y) xs

-- a member below all of the other set comes first
union-first : (x : ℕ) (xs ys : List ℕ) → below_all x ys ≡ true → union (x ∷ xs) ys ≡ x ∷ union xs ys
union-first x xs [] h = refl
union-first x xs (y ∷ ys) h =
    let parts = and_parts (nat_lt x y) (below_all x ys) h in
    rw parts.0 (union-first x (with xs y) ys parts.1)

union-equal : (x : ℕ) (xs ys : List ℕ) → below_all x ys ≡ true → union (x ∷ xs) (x ∷ ys) ≡ x ∷ union xs ys
union-equal x xs ys h =
    let not_below : nat_lt x x ≡ false = le-ltb x x (omega arith) in
    rw (not_below, eq-eqb x x refl) (union-first x xs ys h)

union-second : (x y : ℕ) (xs ys : List ℕ) → y < x → below_all y ys ≡ true → union (x ∷ xs) (y ∷ ys) ≡ y ∷ union (x ∷ xs) ys
union-second x y xs ys lt h =
    let not_below : nat_lt x y ≡ false = le-ltb x y (omega arith) in
    let apart : nat_eq x y ≡ false = ne_eqb x y (λ e. omega arith) in
    rw (not_below, apart) (union-first y (x ∷ xs) ys h)

-- the mark of a choice above x is the same without x
mark_above : (x c : ℕ) (xs : List ℕ) → x < c → has (x ∷ xs) c ≡ has xs c
mark_above x c xs lt = let apart : nat_eq x c ≡ false = ne_eqb x c (λ e. omega arith) in rw apart refl

-- no member is below all
has-below : (y : ℕ) (xs : List ℕ) → below_all y xs ≡ true → has xs y ≡ false
has-below y [] h = refl
has-below y (x ∷ xs) h =
    let parts = and_parts (nat_lt y x) (below_all y xs) h in
    let lt : y < x = ltb-true y x parts.0 in
    let apart : nat_eq x y ≡ false = ne_eqb x y (λ e. omega arith) in
    rw apart (has-below y xs parts.1)

same_marks : (x : ℕ) (a b r s : List ℕ) → ((c : ℕ) → x < c → has a c ≡ has b c) → ((c : ℕ) → x < c → has r c ≡ has s c) → (list : List ℕ) → below_all x list ≡ true
    → map (with_mark a r) list ≡ map (with_mark b s) list
same_marks x a b r s h k [] all = refl
same_marks x a b r s h k (c ∷ list) all =
    let parts = and_parts (nat_lt x c) (below_all x list) all in
    let lt : x < c = ltb-true x c parts.0 in
    rw (h c lt, k c lt) (ap (λ rest. with_mark b s c ∷ rest) (same_marks x a b r s h k list parts.1))

above_all : (y x : ℕ) (xs : List ℕ) → y < x → below_all x xs ≡ true → below_all y (x ∷ xs) ≡ true
above_all y x xs lt h = and_from (nat_lt y x) (below_all y xs) (lt-ltb y x lt) (list_all_weaker (λ z. nat_lt x z) (λ z. nat_lt y z) (λ z k. lt-ltb y z (let up : x < z = ltb-true x z k in omega arith)) xs h)

-- the first of both is approved
pub marks_in-approved : (x : ℕ) (xs ys : List ℕ) → is_rising (x ∷ xs) ≡ true → below_all x ys ≡ true → marks_in (x ∷ xs) ys ≡ (x, Approved) ∷ marks_in xs ys
marks_in-approved x xs ys rises all =
    let parts = and_parts (below_all x xs) (is_rising xs) rises in
    let rest = same_marks x (x ∷ xs) xs ys ys (λ c lt. mark_above x c xs lt) (λ c lt. refl) (union xs ys) (list_all-union (λ y. nat_lt x y) xs ys parts.0 all) in
    rw (union-first x xs ys all, eq-eqb x x refl) (ap (λ r. (x, Approved) ∷ r) rest)

-- it is rejected
pub marks_in-rejected : (y : ℕ) (xs ys : List ℕ) → is_rising (y ∷ ys) ≡ true → below_all y xs ≡ true → union xs (y ∷ ys) ≡ y ∷ union xs ys → marks_in xs (y ∷ ys) ≡ (y, Rejected) ∷ marks_in xs ys
marks_in-rejected y xs ys rises all first =
    let parts = and_parts (below_all y ys) (is_rising ys) rises in
    let rest = same_marks y xs xs (y ∷ ys) ys (λ c lt. refl) (λ c lt. mark_above y c ys lt) (union xs ys) (list_all-union (λ z. nat_lt y z) xs ys all parts.0) in
    rw (first, has-below y xs all, eq-eqb y y refl) (ap (λ r. (y, Rejected) ∷ r) rest)

pub marks_in-only_rejected : (y : ℕ) (ys : List ℕ) → is_rising (y ∷ ys) ≡ true → marks_in [] (y ∷ ys) ≡ (y, Rejected) ∷ marks_in [] ys
marks_in-only_rejected y ys rises =
    let parts = and_parts (below_all y ys) (is_rising ys) rises in
    marks_in-rejected y [] ys rises refl (union-first y [] ys parts.0)

pub marks_in-less : (x y : ℕ) (xs ys : List ℕ) → is_rising (x ∷ xs) ≡ true → is_rising (y ∷ ys) ≡ true → x < y → marks_in (x ∷ xs) (y ∷ ys) ≡ (x, Approved) ∷ marks_in xs (y ∷ ys)
marks_in-less x y xs ys rises rises' lt =
    let parts = and_parts (below_all y ys) (is_rising ys) rises' in
    marks_in-approved x xs (y ∷ ys) rises (above_all x y ys lt parts.0)

pub marks_in-greater : (x y : ℕ) (xs ys : List ℕ) → is_rising (x ∷ xs) ≡ true → is_rising (y ∷ ys) ≡ true → y < x → marks_in (x ∷ xs) (y ∷ ys) ≡ (y, Rejected) ∷ marks_in (x ∷ xs) ys
marks_in-greater x y xs ys rises rises' lt =
    let parts = and_parts (below_all x xs) (is_rising xs) rises in
    let parts' = and_parts (below_all y ys) (is_rising ys) rises' in
    marks_in-rejected y (x ∷ xs) ys rises' (above_all y x xs lt parts.0) (union-second x y xs ys lt parts'.0)

pub marks_in-equal : (x : ℕ) (xs ys : List ℕ) → is_rising (x ∷ xs) ≡ true → is_rising (x ∷ ys) ≡ true → marks_in (x ∷ xs) (x ∷ ys) ≡ (x, Approved) ∷ marks_in xs ys
marks_in-equal x xs ys rises rises' =
    let parts = and_parts (below_all x xs) (is_rising xs) rises in
    let parts' = and_parts (below_all x ys) (is_rising ys) rises' in
    let rest = same_marks x (x ∷ xs) xs (x ∷ ys) ys (λ c lt. mark_above x c xs lt) (λ c lt. mark_above x c ys lt) (union xs ys) (list_all-union (λ y. nat_lt x y) xs ys parts.0 parts'.0) in
    rw (union-equal x xs ys parts'.0, eq-eqb x x refl) (ap (λ r. (x, Approved) ∷ r) rest)

-- the same, in the words of the first members
module _ (a r : List ℕ) where
  pub next_rejected : (y : ℕ) (ys : List ℕ) → length a ≡ 0 → r ≡ y ∷ ys → is_rising r ≡ true → marks_in a r ≡ (y, Rejected) ∷ marks_in a ys
  next_rejected y ys none e rises = rw (nil_from_length a none, e) (marks_in-only_rejected y ys (rw e at rises))

  pub next_approved : (x : ℕ) (xs : List ℕ) → length r ≡ 0 → a ≡ x ∷ xs → is_rising a ≡ true → marks_in a r ≡ (x, Approved) ∷ marks_in xs r
  next_approved x xs none e rises = rw (nil_from_length r none, e) (marks_in-approved x xs [] (rw e at rises) refl)

  pub next_less : (x y : ℕ) (xs ys : List ℕ) → a ≡ x ∷ xs → r ≡ y ∷ ys → is_rising a ≡ true → is_rising r ≡ true → x < y → marks_in a r ≡ (x, Approved) ∷ marks_in xs r
  next_less x y xs ys e f ra rr lt = rw (e, f) (marks_in-less x y xs ys (rw e at ra) (rw f at rr) lt)

  pub next_greater : (x y : ℕ) (xs ys : List ℕ) → a ≡ x ∷ xs → r ≡ y ∷ ys → is_rising a ≡ true → is_rising r ≡ true → y < x → marks_in a r ≡ (y, Rejected) ∷ marks_in a ys
  next_greater x y xs ys e f ra rr lt = rw (e, f) (marks_in-greater x y xs ys (rw e at ra) (rw f at rr) lt)

  pub next_equal : (x y : ℕ) (xs ys : List ℕ) → a ≡ x ∷ xs → r ≡ y ∷ ys → is_rising a ≡ true → is_rising r ≡ true → x ≡ y → marks_in a r ≡ (x, Approved) ∷ marks_in xs ys
  next_equal x y xs ys e f ra rr same = rw (e, f, ← same) (marks_in-equal x xs ys (rw e at ra) (rw (f, ← same) at rr))
