-- A set with one more number, and the set with all of another.
use Rattle.std.proofs.Common.{inl, inr, ◌≡◌, ◌⊎◌, ◌<◌, ℕ, List, [], ◌∷◌, ◌++◌, Bool, true, false, not, cond, ◌&&◌, ◌||◌, Some, refl, ap, sym, subst, ◌∙◌, arith, nat_lt, nat_eq, IsTrue}
use Rattle.std.specs.List.{list_all, list_any, find}
use Rattle.std.proofs.lemmas.Bool.{and_from, and_parts, or_cases, or_left, or_right, ltb-true, lt-ltb, eqb-true, false_from_ne_true, not-true}
use Rattle.std.proofs.lemmas.Bool.Decides.{nat_tests}
use Rattle.lists.specs.Sets.{is_rising, has, is_subset, is_disjoint, with, without, union}
use Rattle.lists.proofs.Truth.{and_first, and_second, nat_eq-same}
use Rattle.lists.proofs.Tests.{list_all_weaker, list_all-right, list_all-filter}
use Rattle.lists.proofs.Sets.{list_all-has, list_all-from_has, is_disjoint-at, is_disjoint-from_has, has-filter_parts}

-- ---- with

-- a test that all members of a set pass, and c too, is passed by all of the set with c
pub list_all-with : (p : ℕ → Bool) (xs : List ℕ) (c : ℕ) → list_all p xs ≡ true → p c ≡ true → list_all p (with xs c) ≡ true
list_all-with p [] c h hc = rw hc refl
list_all-with p (x ∷ xs) c h hc =
    elim (nat_lt x c) as (λ r. list_all p (cond r (x ∷ with xs c) (cond (nat_eq x c) (x ∷ xs) (c ∷ x ∷ xs))) ≡ true) [
      | true ↦ and_from (p x) _ (and_first _ _ h) (list_all-with p xs c (and_second (p x) _ h) hc)
      | false ↦ elim (nat_eq x c) as (λ r. list_all p (cond r (x ∷ xs) (c ∷ x ∷ xs)) ≡ true) [ true ↦ h | false ↦ and_from (p c) _ hc h ]
    ]

pub is_rising-with : (xs : List ℕ) (c : ℕ) → IsTrue (is_rising xs) → IsTrue (is_rising (with xs c))
is_rising-with [] c h = refl
is_rising-with (x ∷ xs) c h =
    elim (nat_lt x c) as (λ r. nat_lt x c ≡ r → is_rising (cond r (x ∷ with xs c) (cond (nat_eq x c) (x ∷ xs) (c ∷ x ∷ xs))) ≡ true) [
      | true ↦ λ lt. and_from (list_all (λ y. nat_lt x y) (with xs c)) _ (list_all-with (λ y. nat_lt x y) xs c (and_first _ _ h) lt) (is_rising-with xs c (and_second _ _ h))
      | false ↦ λ ge.
          elim (nat_eq x c) as (λ r. nat_eq x c ≡ r → is_rising (cond r (x ∷ xs) (c ∷ x ∷ xs)) ≡ true) [
            | true ↦ λ _. h
            | false ↦ λ ne.
                let lt : c < x = grind (arith, nat_tests) in
                let all : list_all (λ y. nat_lt c y) xs ≡ true = list_all_weaker (λ y. nat_lt x y) (λ y. nat_lt c y) (λ y k. lt-ltb c y (omega (arith, ltb-true x y k))) xs (and_first _ _ h) in
                and_from (nat_lt c x && list_all (λ y. nat_lt c y) xs) _ (and_from (nat_lt c x) _ (lt-ltb c x lt) all) h
          ] refl
    ] refl

pub has-with_new : (xs : List ℕ) (c : ℕ) → has (with xs c) c ≡ true
has-with_new [] c = or_left (nat_eq c c) _ (nat_eq-same c)
has-with_new (x ∷ xs) c =
    elim (nat_lt x c) as (λ r. has (cond r (x ∷ with xs c) (cond (nat_eq x c) (x ∷ xs) (c ∷ x ∷ xs))) c ≡ true) [
      | true ↦ or_right (nat_eq x c) _ (has-with_new xs c)
      | false ↦
          elim (nat_eq x c) as (λ r. nat_eq x c ≡ r → has (cond r (x ∷ xs) (c ∷ x ∷ xs)) c ≡ true) [
            | true ↦ λ same. or_left (nat_eq x c) _ same
            | false ↦ λ _. or_left (nat_eq c c) _ (nat_eq-same c)
          ] refl
    ]

pub has-with_old : (xs : List ℕ) (c y : ℕ) → has xs y ≡ true → has (with xs c) y ≡ true
has-with_old [] c y h = absurd (cc)
has-with_old (x ∷ xs) c y h =
    elim (nat_lt x c) as (λ r. has (cond r (x ∷ with xs c) (cond (nat_eq x c) (x ∷ xs) (c ∷ x ∷ xs))) y ≡ true) [
      | true ↦ elim (or_cases (nat_eq x y) (has xs y) h) as (λ _. (nat_eq x y || has (with xs c) y) ≡ true) [ inl e ↦ or_left (nat_eq x y) _ e | inr k ↦ or_right (nat_eq x y) _ (has-with_old xs c y k) ]
      | false ↦ elim (nat_eq x c) as (λ r. has (cond r (x ∷ xs) (c ∷ x ∷ xs)) y ≡ true) [ true ↦ h | false ↦ or_right (nat_eq c y) _ h ]
    ]

pub has-with_cases : (xs : List ℕ) (c y : ℕ) → has (with xs c) y ≡ true → (c ≡ y) ⊎ (has xs y ≡ true)
has-with_cases xs c y h =
    let either = list_all-has (λ z. nat_eq c z || has xs z) (with xs c) y
    (list_all-with (λ z. nat_eq c z || has xs z) xs c (list_all-from_has _ xs (λ z k. or_right (nat_eq c z) _ k)) (or_left (nat_eq c c) _ (nat_eq-same c))) h in
    elim (or_cases (nat_eq c y) (has xs y) either) as (λ _. (c ≡ y) ⊎ (has xs y ≡ true)) [ inl e ↦ inl (eqb-true c y e) | inr k ↦ inr k ]

-- what all of a set with c pass, c passes, and all of the set
pub list_all-with_new : (p : ℕ → Bool) (xs : List ℕ) (c : ℕ) → list_all p (with xs c) ≡ true → p c ≡ true
list_all-with_new p xs c h = list_all-has p (with xs c) c h (has-with_new xs c)

pub list_all-with_old : (p : ℕ → Bool) (xs : List ℕ) (c : ℕ) → list_all p (with xs c) ≡ true → list_all p xs ≡ true
list_all-with_old p xs c h = list_all-from_has p xs (λ y k. list_all-has p (with xs c) y h (has-with_old xs c y k))

pub list_all-with_parts : (p : ℕ → Bool) (xs : List ℕ) (c : ℕ) → list_all p (with xs c) ≡ true → (p c ≡ true) × (list_all p xs ≡ true)
list_all-with_parts p xs c h = (list_all-with_new p xs c h, list_all-with_old p xs c h)

-- a test that the new number does not pass
pub find-with : (f : ℕ → Bool) (xs : List ℕ) (c : ℕ) → f c ≡ false → find f (with xs c) ≡ find f xs
find-with f [] c h = rw h refl
find-with f (x ∷ xs) c h =
    elim (nat_lt x c) as (λ r. find f (cond r (x ∷ with xs c) (cond (nat_eq x c) (x ∷ xs) (c ∷ x ∷ xs))) ≡ find f (x ∷ xs)) [
      | true ↦ ap (λ r. cond (f x) (Some x) r) (find-with f xs c h)
      | false ↦ elim (nat_eq x c) as (λ r. find f (cond r (x ∷ xs) (c ∷ x ∷ xs)) ≡ find f (x ∷ xs)) [ true ↦ refl | false ↦ ap (λ b. cond b (Some c) (find f (x ∷ xs))) h ]
    ]

pub list_any-with : (f : ℕ → Bool) (xs : List ℕ) (c : ℕ) → f c ≡ false → list_any f (with xs c) ≡ list_any f xs
list_any-with f [] c h = rw h refl
list_any-with f (x ∷ xs) c h =
    elim (nat_lt x c) as (λ r. list_any f (cond r (x ∷ with xs c) (cond (nat_eq x c) (x ∷ xs) (c ∷ x ∷ xs))) ≡ list_any f (x ∷ xs)) [
      | true ↦ ap (λ r. f x || r) (list_any-with f xs c h)
      | false ↦ elim (nat_eq x c) as (λ r. list_any f (cond r (x ∷ xs) (c ∷ x ∷ xs)) ≡ list_any f (x ∷ xs)) [ true ↦ refl | false ↦ ap (λ b. b || list_any f (x ∷ xs)) h ]
    ]

pub is_disjoint-with : (xs ys : List ℕ) (c : ℕ) → is_disjoint xs ys ≡ true → has xs c ≡ false → is_disjoint xs (with ys c) ≡ true
is_disjoint-with xs ys c h out =
    is_disjoint-from_has xs (with ys c) (λ x m. false_from_ne_true _ (λ t.
    elim (has-with_cases ys c x t) as (λ _. ⊥) [
      | inl same ↦ let yes : has xs c ≡ true = ap (has xs) same ∙ m in let f : true ≡ false = sym yes ∙ out in cc
      | inr old ↦ let gone = is_disjoint-at xs ys x h m in let f : true ≡ false = sym old ∙ gone in cc
    ]))

-- a number above all of a set goes to its end
pub with-last : (xs : List ℕ) (c : ℕ) (ys : List ℕ) → is_rising (xs ++ c ∷ ys) ≡ true → with xs c ≡ xs ++ c ∷ []
with-last [] c ys h = refl
with-last (x ∷ xs) c ys h =
    let parts = and_parts (list_all (λ z. nat_lt x z) (xs ++ c ∷ ys)) _ h in
    let lt : nat_lt x c ≡ true = (and_parts _ _ (list_all-right (λ z. nat_lt x z) xs (c ∷ ys) parts.0)).0 in
    rw lt (ap (λ zs. x ∷ zs) (with-last xs c ys parts.1))

-- ---- without

pub has-without_own : (set : List ℕ) (c : ℕ) → has (without set c) c ≡ false
has-without_own set c = false_from_ne_true _ (λ h. let parts = has-filter_parts (λ x. not (nat_eq x c)) set c h in let f : true ≡ false = sym (nat_eq-same c) ∙ not-true _ parts.0 in cc)

pub is_disjoint-without_first : (xs ys : List ℕ) (c : ℕ) → is_disjoint xs ys ≡ true → is_disjoint (without xs c) ys ≡ true
is_disjoint-without_first xs ys c h = list_all-filter (λ x. not (has ys x)) (λ x. not (nat_eq x c)) xs h

pub is_disjoint-without_second : (xs ys : List ℕ) (c : ℕ) → is_disjoint xs ys ≡ true → is_disjoint xs (without ys c) ≡ true
is_disjoint-without_second xs ys c h =
    is_disjoint-from_has xs (without ys c) (λ x m. false_from_ne_true _ (λ t.
    let there = (has-filter_parts (λ y. not (nat_eq y c)) ys x t).1 in
    let gone = is_disjoint-at xs ys x h m in
    let f : true ≡ false = sym there ∙ gone in
    cc))

-- ---- union

pub list_all-union : (p : ℕ → Bool) (xs ys : List ℕ) → list_all p xs ≡ true → list_all p ys ≡ true → list_all p (union xs ys) ≡ true
list_all-union p xs [] h k = h
list_all-union p xs (y ∷ ys) h k = let parts = and_parts (p y) (list_all p ys) k in list_all-union p (with xs y) ys (list_all-with p xs y h parts.0) parts.1

pub is_rising-union : (xs ys : List ℕ) → is_rising xs ≡ true → is_rising (union xs ys) ≡ true
is_rising-union xs [] h = h
is_rising-union xs (y ∷ ys) h = is_rising-union (with xs y) ys (is_rising-with xs y h)

pub has-union_first : (xs ys : List ℕ) (c : ℕ) → has xs c ≡ true → has (union xs ys) c ≡ true
has-union_first xs [] c h = h
has-union_first xs (y ∷ ys) c h = has-union_first (with xs y) ys c (has-with_old xs y c h)

pub has-union_second : (xs ys : List ℕ) (c : ℕ) → has ys c ≡ true → has (union xs ys) c ≡ true
has-union_second xs [] c h = absurd (cc)
has-union_second xs (y ∷ ys) c h =
    elim (or_cases (nat_eq y c) (has ys c) h) as (λ _. has (union (with xs y) ys) c ≡ true) [
      | inl e ↦ has-union_first (with xs y) ys c (subst (λ z. has (with xs y) z ≡ true) (eqb-true y c e) (has-with_new xs y))
      | inr k ↦ has-union_second (with xs y) ys c k
    ]

pub has-union : (xs ys : List ℕ) (c : ℕ) → has (union xs ys) c ≡ true → (has xs c || has ys c) ≡ true
has-union xs ys c h =
    list_all-has (λ y. has xs y || has ys y) (union xs ys) c
    (list_all-union (λ y. has xs y || has ys y) xs ys (list_all-from_has _ xs (λ y k. or_left (has xs y) _ k)) (list_all-from_has _ ys (λ y k. or_right (has xs y) _ k))) h

pub has-union_cases : (xs ys : List ℕ) (c : ℕ) → has (union xs ys) c ≡ true → (has xs c ≡ true) ⊎ (has ys c ≡ true)
has-union_cases xs ys c h = or_cases (has xs c) (has ys c) (has-union xs ys c h)

pub is_subset-union : (xs ys set : List ℕ) → is_subset xs set ≡ true → is_subset ys set ≡ true → is_subset (union xs ys) set ≡ true
is_subset-union xs ys set h k = list_all-union (has set) xs ys h k
