-- What a sublist has no more of than its list.
use Rattle.std.proofs.Common.{inl, inr, ◌≡◌, ◌⊎◌, ◌<◌, ◌≤◌, max, ℕ, List, [], ◌∷◌, true, length, map, refl, ap, sym, arith, nat_lt, nat_eq}
use Rattle.std.specs.List.{list_all, sum_by, fold}
use Rattle.std.proofs.lemmas.Bool.{and_from, and_parts, or_cases, eqb-true, lt-ltb, ltb-true}
use Rattle.std.proofs.lemmas.List.Sums.{sum_by-cons}
use Rattle.lists.specs.Sets.{is_rising, has, is_subset}
use Rattle.lists.proofs.Tests.{list_all_weaker}
use Rattle.lists.proofs.Sets.{has-behind, has_above}
use Rattle.lists.proofs.Sums.{fold-max}
pub use Rattle.lists.specs.Sublists.{IsSublist}

pub sublist_from_subset : (xs ys : List ℕ) → is_rising xs ≡ true → is_rising ys ≡ true → is_subset xs ys ≡ true → IsSublist xs ys
sublist_from_subset [] ys r s h = tt
sublist_from_subset (x ∷ xs) [] r s h = absurd (cc)
sublist_from_subset (x ∷ xs) (y ∷ ys) r s h =
    let rest = and_parts (list_all (λ z. nat_lt x z) xs) (is_rising xs) r in
    let rises = and_parts (list_all (λ z. nat_lt y z) ys) (is_rising ys) s in
    let all = and_parts (has (y ∷ ys) x) (list_all (has (y ∷ ys)) xs) h in
    elim (or_cases (nat_eq y x) (has ys x) all.0) as (λ _. IsSublist (x ∷ xs) (y ∷ ys)) [
      | inl same ↦
          let e : y ≡ x = eqb-true y x same in
          let above : list_all (λ z. nat_lt y z) xs ≡ true = rw e rest.0 in
          inl (sym e, sublist_from_subset xs ys rest.1 rises.1 (has-behind y ys xs above all.1))
      | inr there ↦
          let lt : y < x = has_above y x ys rises.0 there in
          let above : list_all (λ z. nat_lt y z) xs ≡ true = list_all_weaker (λ z. nat_lt x z) (λ z. nat_lt y z) (λ z k. lt-ltb y z (omega (arith, ltb-true x z k))) xs rest.0 in
          inr (sublist_from_subset (x ∷ xs) ys r rises.1 (and_from (has ys x) _ there (has-behind y ys xs above all.1)))
    ]

pub sum_by-sublist : (f : ℕ → ℕ) (xs ys : List ℕ) → IsSublist xs ys → sum_by f xs ≤ sum_by f ys
sum_by-sublist f [] ys h = omega arith
sum_by-sublist f (x ∷ xs) [] h = absurd h
sum_by-sublist f (x ∷ xs) (y ∷ ys) h =
    elim h as (λ _. sum_by f (x ∷ xs) ≤ sum_by f (y ∷ ys)) [
      | inl same ↦ let more : sum_by f xs ≤ sum_by f ys = sum_by-sublist f xs ys same.1 in let e : f x ≡ f y = ap f same.0 in omega (arith, sum_by-cons f x xs, sum_by-cons f y ys, e, more)
      | inr skip ↦ let more : sum_by f (x ∷ xs) ≤ sum_by f ys = sum_by-sublist f (x ∷ xs) ys skip in omega (arith, sum_by-cons f y ys, more)
    ]

pub greatest-sublist : (f : ℕ → ℕ) (xs ys : List ℕ) → IsSublist xs ys → fold max 0 (map f xs) ≤ fold max 0 (map f ys)
greatest-sublist f [] ys h = omega arith
greatest-sublist f (x ∷ xs) [] h = absurd h
greatest-sublist f (x ∷ xs) (y ∷ ys) h =
    let left = fold-max (max 0 (f x)) (map f xs) in
    let right = fold-max (max 0 (f y)) (map f ys) in
    elim h as (λ _. fold max 0 (map f (x ∷ xs)) ≤ fold max 0 (map f (y ∷ ys))) [
      | inl same ↦ let more : fold max 0 (map f xs) ≤ fold max 0 (map f ys) = greatest-sublist f xs ys same.1 in let e : f x ≡ f y = ap f same.0 in omega (arith, left, right, e, more)
      | inr skip ↦ let more : fold max 0 (map f (x ∷ xs)) ≤ fold max 0 (map f ys) = greatest-sublist f (x ∷ xs) ys skip in omega (arith, left, right, more)
    ]

-- a sublist is the list itself, or shorter
pub cases_sublist : (xs ys : List ℕ) → IsSublist xs ys → (xs ≡ ys) ⊎ (length xs < length ys)
cases_sublist [] [] h = inl refl
cases_sublist [] (y ∷ ys) h = inr (omega arith)
cases_sublist (x ∷ xs) [] h = absurd h
cases_sublist (x ∷ xs) (y ∷ ys) h =
    elim h as (λ _. (x ∷ xs ≡ y ∷ ys) ⊎ (length (x ∷ xs) < length (y ∷ ys))) [
      | inl same ↦ elim (cases_sublist xs ys same.1) as (λ _. (x ∷ xs ≡ y ∷ ys) ⊎ (length (x ∷ xs) < length (y ∷ ys))) [ inl e ↦ inl (cc (same.0, e)) | inr lt ↦ inr (omega arith) ]
      | inr skip ↦
          elim (cases_sublist (x ∷ xs) ys skip) as (λ _. (x ∷ xs ≡ y ∷ ys) ⊎ (length (x ∷ xs) < length (y ∷ ys))) [
            | inl e ↦ let same : length (x ∷ xs) ≡ length ys = ap length e in inr (omega (arith, same))
            | inr lt ↦ inr (omega arith)
          ]
    ]

pub length-sublist : (xs ys : List ℕ) → IsSublist xs ys → length xs ≤ length ys
length-sublist xs ys h = elim (cases_sublist xs ys h) as (λ _. length xs ≤ length ys) [ inl e ↦ let same : length xs ≡ length ys = ap length e in omega (arith, same) | inr lt ↦ omega arith ]
