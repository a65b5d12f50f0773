-- The installs of a package's versions are the numbers of a range.
use Rattle.std.proofs.Common.{◌≡◌, ◌<◌, ◌≤◌, ℕ, List, [], ◌∷◌, Bool, true, false, cond, ◌&&◌, ◌||◌, nat_lt, nat_le, nat_eq, Some, None, is_some, refl, ap, sym, ◌∙◌, arith}
use Rattle.std.specs.List.{find, list_any}
use Rattle.std.specs.Cmp.{both_ways}
use Rattle.std.proofs.lemmas.Bool.{and_parts, and_from, ltb-true, lt-ltb, le-leb, leb-true, eqb-true, eq-eqb, false_from_ne_true}
use Rattle.resolver_model.specs.Problems.{Problem, IsWellFormed, package_count, version_count, package_of, installs_of}
use Rattle.problem.specs.Places.{absent_of, end_of}
use Rattle.problem.proofs.Ranges.{package_from, place_from, end_of-range}

-- whether a number is from one to before another
abbrev is_within : ℕ → ℕ → ℕ → Bool
is_within first end n = nat_le first n && nat_lt n end

find_agree : (f g : ℕ → Bool) → ((n : ℕ) → f n ≡ g n) → (xs : List ℕ) → find f xs ≡ find g xs
find_agree f g e [] = refl
find_agree f g e (x ∷ xs) = ap (λ b. cond b (Some x) (find f xs)) (e x) ∙ ap (λ r. cond (g x) (Some x) r) (find_agree f g e xs)

find_none : (f : ℕ → Bool) → ((n : ℕ) → f n ≡ false) → (xs : List ℕ) → None ≡ find f xs
find_none f e [] = refl
find_none f e (x ∷ xs) = find_none f e xs ∙ sym (ap (λ b. cond b (Some x) (find f xs)) (e x))

pub some_found : (f : ℕ → Bool) (xs : List ℕ) → is_some (find f xs) ≡ list_any f xs
some_found f [] = refl
some_found f (x ∷ xs) = elim (f x) as (λ b. is_some (cond b (Some x) (find f xs)) ≡ (b || list_any f xs)) [ true ↦ refl | false ↦ some_found f xs ]

installs_range : (p : Problem) → IsWellFormed p → (q c : ℕ) → is_within (absent_of p q) (end_of p q) c ≡ installs_of p q c
installs_range p w q c = both_ways (is_within (absent_of p q) (end_of p q) c) (installs_of p q c) to back
  where
    to : is_within (absent_of p q) (end_of p q) c ≡ true → installs_of p q c ≡ true
    to h =
        let parts = and_parts (nat_le (absent_of p q) c) (nat_lt c (end_of p q)) h in
        let low : absent_of p q ≤ c = leb-true (absent_of p q) c parts.0 in
        let high : c < end_of p q = ltb-true c (end_of p q) parts.1 in
        let version : c < version_count p = omega (arith, high, end_of-range p q) in
        and_from (nat_lt c (version_count p)) _ (lt-ltb c (version_count p) version) (eq-eqb (package_of p c) q (package_from p w q c version low high))

    back : installs_of p q c ≡ true → is_within (absent_of p q) (end_of p q) c ≡ true
    back h =
        let parts = and_parts (nat_lt c (version_count p)) (nat_eq (package_of p c) q) h in
        let version : c < version_count p = ltb-true c (version_count p) parts.0 in
        let place = place_from p w q c version (eqb-true (package_of p c) q parts.1) in
        and_from (nat_le (absent_of p q) c) _ (le-leb (absent_of p q) c place.0) (lt-ltb c (end_of p q) place.1)

pub first_in_range : (p : Problem) → IsWellFormed p → (q : ℕ) (xs : List ℕ) → find (is_within (absent_of p q) (end_of p q)) xs ≡ find (installs_of p q) xs
first_in_range p w q xs = find_agree (is_within (absent_of p q) (end_of p q)) (installs_of p q) (installs_range p w q) xs

-- no choice installs a version of a package that is not there
pub none_past : (p : Problem) → IsWellFormed p → (q : ℕ) (xs : List ℕ) → package_count p ≤ q → None ≡ find (installs_of p q) xs
none_past p w q xs le = find_none (installs_of p q) none xs
  where
    none : (c : ℕ) → installs_of p q c ≡ false
    none c = false_from_ne_true _ (λ h.
        let parts = and_parts (nat_lt c (version_count p)) (nat_eq (package_of p c) q) h in
        let owner : package_of p c < package_count p = w.owners c (ltb-true c (version_count p) parts.0) in
        let same : package_of p c ≡ q = eqb-true (package_of p c) q parts.1 in
        absurd (omega arith))
