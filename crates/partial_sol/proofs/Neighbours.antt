-- The versions of a package follow each other, so two that a rising list installs are neighbours there.
use Rattle.std.proofs.Common.{inl, inr, ◌≡◌, ◌<◌, ◌≤◌, ℕ, zero, suc, ◌+◌, ◌-◌, List, [], ◌∷◌, length, drop, get_or, Bool, true, false, not, ◌&&◌, ◌||◌, nat_lt, nat_eq, refl, ap, sym, ◌∙◌, subst, arith}
use Rattle.std.specs.Prelude.{Option, Some, None, slice_get, slice_index}
use Rattle.std.proofs.Math.Seq.{drop-cons}
use Rattle.std.proofs.Math.Bool.{and-false}
use Rattle.std.proofs.lemmas.List.{drop_all}
use Rattle.lists.proofs.Sets.{is_rising-drop}
use Rattle.std.specs.List.{list_all, list_any}
use Rattle.std.specs.Cmp.{both_ways}
use Rattle.std.proofs.lemmas.Bool.{and_parts, and_from, or_cases, ltb-true, lt-ltb, eqb-true, eq-eqb, not_from_false, false_from_ne_true}
use Rattle.lists.proofs.Sets.{list_any-has, has_above}
use Rattle.lists.specs.Sets.{is_rising, has}
use Rattle.resolver_model.specs.Problems.{Problem, IsWellFormed, package_of, version_count, installs_of, changes}
use Rattle.partial_sol.specs.Shutting.{clash, is_changed_behind}

-- packages rise with their versions
owners_rise : (p : Problem) → IsWellFormed p → (x d : ℕ) → x + d < version_count p → package_of p x ≤ package_of p (x + d)
owners_rise p w x zero lt = let e : x ≡ x + 0 = omega arith in subst (λ k. package_of p x ≤ package_of p k) e (omega arith)
owners_rise p w x (suc d) lt =
    let before = owners_rise p w x d (omega (arith, lt)) in
    let next : package_of p (x + d) ≤ package_of p (x + d + 1) = w.together (x + d) (omega (arith, lt)) in
    let e : x + d + 1 ≡ x + suc d = omega arith in
    subst (λ k. package_of p x ≤ package_of p k) e (omega (arith, before, next))

owners_upto : (p : Problem) → IsWellFormed p → (x y : ℕ) → x ≤ y → y < version_count p → package_of p x ≤ package_of p y
owners_upto p w x y le lt =
    let e : x + (y - x) ≡ y = omega (arith, le) in
    subst (λ k. package_of p x ≤ package_of p k) e (owners_rise p w x (y - x) (omega (arith, e, lt)))

-- a member of a rising list is at least its first one
first_least : (y z : ℕ) (ys : List ℕ) → list_all (λ s. nat_lt y s) ys ≡ true → has (y ∷ ys) z ≡ true → y ≤ z
first_least y z ys r h =
    elim (or_cases (nat_eq y z) (has ys z) h) as (λ _. y ≤ z) [
      | inl e ↦ let same : y ≡ z = eqb-true y z e in omega (arith, same)
      | inr m ↦ let lt : y < z = has_above y z ys r m in omega (arith, lt)
    ]

next_clash : (p : Problem) → IsWellFormed p → (c y : ℕ) (ys : List ℕ) → is_rising (c ∷ y ∷ ys) ≡ true
    → clash p c y ≡ (nat_lt c (version_count p) && changes p (y ∷ ys) (package_of p c))
next_clash p w c y ys r = both_ways (clash p c y) (nat_lt c (version_count p) && changes p (y ∷ ys) (package_of p c)) to back
  where
    to : clash p c y ≡ true → (nat_lt c (version_count p) && changes p (y ∷ ys) (package_of p c)) ≡ true
    to h =
        let parts = and_parts (nat_lt c (version_count p) && installs_of p (package_of p c) y) (not (nat_eq y c)) h in
        let both = and_parts (nat_lt c (version_count p)) (installs_of p (package_of p c) y) parts.0 in
        and_from (nat_lt c (version_count p)) _ both.0 (ap (λ b. b || list_any (installs_of p (package_of p c)) ys) both.1)

    back : (nat_lt c (version_count p) && changes p (y ∷ ys) (package_of p c)) ≡ true → clash p c y ≡ true
    back h =
        let parts = and_parts (nat_lt c (version_count p)) (changes p (y ∷ ys) (package_of p c)) h in
        let rises = and_parts (list_all (λ z. nat_lt c z) (y ∷ ys)) (is_rising (y ∷ ys)) r in
        let above = and_parts (nat_lt c y) (list_all (λ z. nat_lt c z) ys) rises.0 in
        let behind = and_parts (list_all (λ z. nat_lt y z) ys) (is_rising ys) rises.1 in
        let found = list_any-has (installs_of p (package_of p c)) (y ∷ ys) parts.1 in
        let z = found.0 in
        let own = and_parts (nat_lt z (version_count p)) (nat_eq (package_of p z) (package_of p c)) found.2 in
        let lt : c < y = ltb-true c y above.0 in
        let le : y ≤ z = first_least y z ys behind.0 found.1 in
        let end : z < version_count p = ltb-true z (version_count p) own.0 in
        let same : package_of p z ≡ package_of p c = eqb-true (package_of p z) (package_of p c) own.1 in
        let low : package_of p c ≤ package_of p y = owners_upto p w c y (omega (arith, lt)) (omega (arith, le, end)) in
        let high : package_of p y ≤ package_of p z = owners_upto p w y z le end in
        let equal : package_of p y ≡ package_of p c = omega (arith, same, low, high) in
        let other : nat_eq y c ≡ false = false_from_ne_true _ (λ t. let e : y ≡ c = eqb-true y c t in absurd (omega (arith, e, lt))) in
        and_from (nat_lt c (version_count p) && installs_of p (package_of p c) y) _
        (and_from (nat_lt c (version_count p)) _ parts.0
        (and_from (nat_lt y (version_count p)) _ (lt-ltb y (version_count p) (omega (arith, le, end))) (eq-eqb (package_of p y) (package_of p c) equal)))
        (not_from_false _ other)

drop_step : (xs : List ℕ) (i : ℕ) → i < length xs → drop i xs ≡ slice_index xs i ∷ drop (i + 1) xs
drop_step xs i lt = let e : suc i ≡ i + 1 = omega arith in subst (λ k. drop i xs ≡ slice_index xs i ∷ drop k xs) e (drop-cons xs i 0 lt)

-- nothing is behind the last choice
pub last_clash : (p : Problem) (set : List ℕ) (n : ℕ) → length set ≤ n + 1 → false ≡ is_changed_behind p set n
last_clash p set n le =
    sym (ap (λ (x : List ℕ). nat_lt (slice_index set n) (version_count p) && changes p x (package_of p (slice_index set n))) (drop_all (n + 1) set le) ∙ and-false (nat_lt (slice_index set n) (version_count p)))

pub place_clash : (p : Problem) → IsWellFormed p → (set : List ℕ) (n : ℕ) → is_rising set ≡ true → n + 1 < length set
    → clash p (slice_index set n) (slice_index set (n + 1)) ≡ is_changed_behind p set n
place_clash p w set n r lt =
    let here : drop n set ≡ slice_index set n ∷ drop (n + 1) set = drop_step set n (omega (arith, lt)) in
    let next : drop (n + 1) set ≡ slice_index set (n + 1) ∷ drop (n + 1 + 1) set = drop_step set (n + 1) lt in
    let rises : is_rising (slice_index set n ∷ slice_index set (n + 1) ∷ drop (n + 1 + 1) set) ≡ true =
    subst (λ (x : List ℕ). is_rising (slice_index set n ∷ x) ≡ true) next (subst (λ (x : List ℕ). is_rising x ≡ true) here (is_rising-drop set n r)) in
    next_clash p w (slice_index set n) (slice_index set (n + 1)) (drop (n + 1 + 1) set) rises
    ∙ ap (λ (x : List ℕ). nat_lt (slice_index set n) (version_count p) && changes p x (package_of p (slice_index set n))) (sym next)
