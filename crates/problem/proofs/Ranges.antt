-- Where the versions of a package stand, when the versions of each package stand together.
use Rattle.std.proofs.Common.{inl, inr, ◌≡◌, ◌<◌, ◌≤◌, ◌+◌, ◌*◌, ℕ, zero, suc, List, [], ◌∷◌, ◌++◌, Bool, true, false, cond, length, get_or, replicate, refl, ap, sym, ◌∙◌, arith, add-one, nat_lt, nat_le, length-append}
use Rattle.std.specs.List.{count_by}
use Rattle.std.proofs.lemmas.List.{get_or_append_left, get_or_read}
use Rattle.std.proofs.Math.Seq.{get_or-append_seam}
use Rattle.std.proofs.lemmas.List.Sums.{sum_by-append, sum_by-cons, count_by-le-length}
use Rattle.std.proofs.lemmas.List.Folds.{sum_by-replicate}
use Rattle.std.proofs.Math.Nat.{eq-or-lt_of_le}
use Rattle.std.proofs.lemmas.Bool.{le-leb, ltb-true, lt-ltb, le-ltb, ltb-false}
use Rattle.std.proofs.lemmas.Bool.Decides.{nat_tests}
use Rattle.resolver_model.specs.Problems.{Problem, IsWellFormed, package_count, version_count, package_of, start_of}
use Rattle.problem.specs.Builds.{with_package}
use Rattle.problem.specs.Places.{absent_of, end_of, AreFirsts, IsKept}

-- each number of the list is at most the next
abbrev pub IsNotFalling : List ℕ → Type 0
IsNotFalling xs = (k : ℕ) → k + 1 < length xs → get_or xs k 0 ≤ get_or xs (k + 1) 0

-- how many are less than q
abbrev pub less_count : ℕ → List ℕ → ℕ
less_count q xs = count_by (λ y. nat_lt y q) xs

not_falling_rest : (x : ℕ) (xs : List ℕ) → IsNotFalling (x ∷ xs) → IsNotFalling xs
not_falling_rest x xs h k lt =
    let e : suc k + 1 ≡ suc (k + 1) = omega arith in
    rw e at (h (suc k) (omega arith))

-- how many pass, with one more in front
count_front : (p : ℕ → Bool) (x : ℕ) (xs : List ℕ) (r : Bool) → p x ≡ r → count_by p (x ∷ xs) ≡ cond r 1 0 + count_by p xs
count_front p x xs r e = sum_by-cons (λ y. cond (p y) 1 0) x xs ∙ ap (λ r. cond r 1 0 + count_by p xs) e

count_all : (p : ℕ → Bool) (xs : List ℕ) → ((k : ℕ) → k < length xs → p (get_or xs k 0) ≡ true) → count_by p xs ≡ length xs
count_all p [] h = refl
count_all p (x ∷ xs) h =
    let rest : count_by p xs ≡ length xs = count_all p xs (λ k lt. h (suc k) (omega arith)) in
    let front : count_by p (x ∷ xs) ≡ 1 + count_by p xs = count_front p x xs true (h 0 (omega arith)) in
    omega arith

-- a count by another test that says the same
count_same : (p q : ℕ → Bool) → ((y : ℕ) → p y ≡ q y) → (xs : List ℕ) → count_by p xs ≡ count_by q xs
count_same p q h [] = refl
count_same p q h (x ∷ xs) =
    count_front p x xs (q x) (h x) ∙ ap (λ n. cond (q x) 1 0 + n) (count_same p q h xs) ∙ sym (count_front q x xs (q x) refl)

-- the first of a list that does not fall is the least
at_least_first : (x : ℕ) (xs : List ℕ) → IsNotFalling (x ∷ xs) → (k : ℕ) → k < length (x ∷ xs) → x ≤ get_or (x ∷ xs) k 0
at_least_first x xs h zero lt = omega arith
at_least_first x xs h (suc k) lt =
    let up : get_or (x ∷ xs) k 0 ≤ get_or (x ∷ xs) (k + 1) 0 = h k (omega arith) in
    let step : get_or (x ∷ xs) k 0 ≤ get_or (x ∷ xs) (suc k) 0 = rw add-one at up in
    let first : x ≤ get_or (x ∷ xs) k 0 = at_least_first x xs h k (omega arith) in
    omega arith

none_less : (q x : ℕ) (xs : List ℕ) → IsNotFalling (x ∷ xs) → q ≤ x → less_count q (x ∷ xs) ≡ 0
none_less q x [] h le = count_front (λ y. nat_lt y q) x [] false (le-ltb x q le)
none_less q x (y ∷ ys) h le =
    let up : x ≤ y = h 0 (omega arith) in
    let rest : less_count q (y ∷ ys) ≡ 0 = none_less q y ys (not_falling_rest x (y ∷ ys) h) (omega arith) in
    let front : less_count q (x ∷ y ∷ ys) ≡ 0 + less_count q (y ∷ ys) = count_front (λ y. nat_lt y q) x (y ∷ ys) false (le-ltb x q le) in
    omega arith

-- in a list that does not fall, those less than q stand in front of all others: one more in front
front_less : (q x : ℕ) (xs : List ℕ) → ((k : ℕ) → k < length xs → nat_lt (get_or xs k 0) q ≡ nat_lt k (less_count q xs)) → nat_lt x q ≡ true
    → (k : ℕ) → k < length (x ∷ xs) → nat_lt (get_or (x ∷ xs) k 0) q ≡ nat_lt k (less_count q (x ∷ xs))
front_less q x xs rest e zero lt =
    let front : less_count q (x ∷ xs) ≡ 1 + less_count q xs = count_front (λ y. nat_lt y q) x xs true e in
    e ∙ sym (lt-ltb 0 (less_count q (x ∷ xs)) (omega arith))
front_less q x xs rest e (suc k) lt =
    let front : less_count q (x ∷ xs) ≡ 1 + less_count q xs = count_front (λ y. nat_lt y q) x xs true e in
    rest k (omega arith) ∙ same_test k (less_count q xs) (suc k) (less_count q (x ∷ xs)) (omega arith) front
  where
    same_test : (a b c d : ℕ) → c ≡ 1 + a → d ≡ 1 + b → nat_lt a b ≡ nat_lt c d
    same_test a b c d e f = grind (arith, nat_tests)

front_not_less : (q x : ℕ) (xs : List ℕ) → IsNotFalling (x ∷ xs) → nat_lt x q ≡ false
    → (k : ℕ) → k < length (x ∷ xs) → nat_lt (get_or (x ∷ xs) k 0) q ≡ nat_lt k (less_count q (x ∷ xs))
front_not_less q x xs h e k lt =
    let le : q ≤ x = ltb-false x q e in
    let least : x ≤ get_or (x ∷ xs) k 0 = at_least_first x xs h k lt in
    let none : less_count q (x ∷ xs) ≡ 0 = none_less q x xs h le in
    le-ltb (get_or (x ∷ xs) k 0) q (omega arith) ∙ sym (le-ltb k (less_count q (x ∷ xs)) (omega arith))

pub less_in_front : (q : ℕ) (xs : List ℕ) → IsNotFalling xs → (k : ℕ) → k < length xs → nat_lt (get_or xs k 0) q ≡ nat_lt k (less_count q xs)
less_in_front q [] h k lt = absurd (omega arith)
less_in_front q (x ∷ xs) h k lt =
    elim (nat_lt x q) as (λ r. nat_lt x q ≡ r → nat_lt (get_or (x ∷ xs) k 0) q ≡ nat_lt k (less_count q (x ∷ xs))) [
      | true ↦ λ e. front_less q x xs (less_in_front q xs (not_falling_rest x xs h)) e k lt
      | false ↦ λ e. front_not_less q x xs h e k lt
    ] refl

-- The same of a problem's packages.

pub end_of-next : (p : Problem) (q : ℕ) → end_of p q ≡ absent_of p (q + 1)
end_of-next p q = count_same (λ y. nat_le y q) (λ y. nat_lt y (q + 1)) (λ y. same_test y q) p.owners
  where
    same_test : (a b : ℕ) → nat_le a b ≡ nat_lt a (b + 1)
    same_test a b = grind (arith, nat_tests)

pub end_of-last : (p : Problem) → IsWellFormed p → (q : ℕ) → q + 1 ≡ package_count p → end_of p q ≡ version_count p
end_of-last p w q e =
    count_all (λ y. nat_le y q) p.owners (λ k lt. let up : get_or p.owners k 0 < package_count p = w.owners k lt in le-leb (get_or p.owners k 0) q (omega arith))

-- a version is one of the package exactly where it stands from absent to before the end
pub package_from : (p : Problem) → IsWellFormed p → (q v : ℕ) → v < version_count p → absent_of p q ≤ v → v < end_of p q → package_of p v ≡ q
package_from p w q v lt low high =
    let less : nat_lt (package_of p v) q ≡ nat_lt v (absent_of p q) = less_in_front q p.owners w.together v lt in
    let more : nat_lt (package_of p v) (q + 1) ≡ nat_lt v (absent_of p (q + 1)) = less_in_front (q + 1) p.owners w.together v lt in
    let no : q ≤ package_of p v = ltb-false (package_of p v) q (less ∙ le-ltb v (absent_of p q) low) in
    let next : end_of p q ≡ absent_of p (q + 1) = end_of-next p q in
    let yes : package_of p v < q + 1 = ltb-true (package_of p v) (q + 1) (more ∙ lt-ltb v (absent_of p (q + 1)) (omega arith)) in
    omega arith

pub place_from : (p : Problem) → IsWellFormed p → (q v : ℕ) → v < version_count p → package_of p v ≡ q → (absent_of p q ≤ v) × (v < end_of p q)
place_from p w q v lt e =
    let less : nat_lt (package_of p v) q ≡ nat_lt v (absent_of p q) = less_in_front q p.owners w.together v lt in
    let more : nat_lt (package_of p v) (q + 1) ≡ nat_lt v (absent_of p (q + 1)) = less_in_front (q + 1) p.owners w.together v lt in
    let low : absent_of p q ≤ v = ltb-false v (absent_of p q) (sym less ∙ le-ltb (package_of p v) q (omega arith)) in
    let next : end_of p q ≡ absent_of p (q + 1) = end_of-next p q in
    let high : v < absent_of p (q + 1) = ltb-true v (absent_of p (q + 1)) (sym more ∙ lt-ltb (package_of p v) (q + 1) (omega arith)) in
    (low, omega arith)

-- absent is a version, and one of its package
pub absent_of-range : (p : Problem) → IsWellFormed p → (q : ℕ) → q < package_count p → absent_of p q < version_count p
absent_of-range p w q lt =
    let start = w.starts q lt in
    let place = place_from p w q (start_of p q) start.0 start.1 in
    omega (arith, place.0, start.0)

pub absent_of-own : (p : Problem) → IsWellFormed p → (q : ℕ) → q < package_count p → package_of p (absent_of p q) ≡ q
absent_of-own p w q lt =
    let start = w.starts q lt in
    let place = place_from p w q (start_of p q) start.0 start.1 in
    package_from p w q (absent_of p q) (absent_of-range p w q lt) (omega arith) (omega (arith, place.0, place.1))

pub end_of-range : (p : Problem) (q : ℕ) → end_of p q ≤ version_count p
end_of-range p q = count_by-le-length (λ y. nat_le y q) p.owners

-- the table of first versions with one more package
pub firsts_added : (p : Problem) → IsWellFormed p → (firsts : List ℕ) → AreFirsts p firsts → (present start : ℕ) → AreFirsts (with_package p present start) (firsts ++ version_count p ∷ [])
firsts_added p w firsts h present start =
    let size : length (firsts ++ version_count p ∷ []) ≡ length (p.starts ++ (version_count p + start) ∷ []) =
    omega (arith, length-append firsts (version_count p ∷ []), length-append p.starts ((version_count p + start) ∷ []), h.size) in
    record { size = size; each = each }
  where
    old : (q : ℕ) → q ≤ package_count p → less_count q (p.owners ++ replicate (present + 1) (package_count p)) ≡ less_count q p.owners
    old q le =
        let no : nat_lt (package_count p) q ≡ false = le-ltb (package_count p) q le in
        let none : less_count q (replicate (present + 1) (package_count p)) ≡ (present + 1) * 0 =
        sum_by-replicate (λ y. cond (nat_lt y q) 1 0) (present + 1) (package_count p) ∙ ap (λ r. (present + 1) * cond r 1 0) no in
        let both : less_count q (p.owners ++ replicate (present + 1) (package_count p)) ≡ less_count q p.owners + less_count q (replicate (present + 1) (package_count p)) =
        sum_by-append (λ y. cond (nat_lt y q) 1 0) p.owners (replicate (present + 1) (package_count p)) in
        omega arith

    each : (q : ℕ) → q < length (p.starts ++ (version_count p + start) ∷ []) → get_or (firsts ++ version_count p ∷ []) q 0 ≡ less_count q (p.owners ++ replicate (present + 1) (package_count p))
    each q lt =
        let upto : q ≤ package_count p = omega (arith, length-append p.starts ((version_count p + start) ∷ [])) in
        elim (eq-or-lt_of_le {n = q} {m = package_count p} upto) as (λ _. get_or (firsts ++ version_count p ∷ []) q 0 ≡ less_count q (p.owners ++ replicate (present + 1) (package_count p))) [
          | inl e ↦
              let size : q ≡ length firsts = omega (arith, h.size) in
              let all : less_count q p.owners ≡ version_count p =
              count_all (λ y. nat_lt y q) p.owners (λ k less. let up : get_or p.owners k 0 < package_count p = w.owners k less in lt-ltb (get_or p.owners k 0) q (omega arith)) in
              ap (λ k. get_or (firsts ++ version_count p ∷ []) k 0) size ∙ get_or-append_seam firsts (version_count p) [] 0 ∙ sym (old q upto ∙ all)
          | inr less ↦
              let size : q < length firsts = omega (arith, h.size) in
              get_or_append_left firsts (version_count p ∷ []) 0 q size ∙ h.each q less ∙ sym (old q upto)
        ]

-- what the table of first versions says
pub first_at : (p : Problem) (firsts : List ℕ) → IsKept p firsts → (q v : ℕ) → q < package_count p → v ≡ get_or firsts q v → v ≡ absent_of p q
first_at p firsts h q v lt e =
    let size : q < length firsts = omega (arith, h.places.size) in
    get_or_read firsts q v size e 0 ∙ h.places.each q lt

pub first_range : (p : Problem) (firsts : List ℕ) → IsKept p firsts → (q v : ℕ) → q < package_count p → v ≡ get_or firsts q v → v < version_count p
first_range p firsts h q v lt e = omega (arith, first_at p firsts h q v lt e, absent_of-range p h.formed q lt)

pub first_own : (p : Problem) (firsts : List ℕ) → IsKept p firsts → (q v : ℕ) → q < package_count p → v ≡ get_or firsts q v → package_of p v ≡ q
first_own p firsts h q v lt e = ap (package_of p) (first_at p firsts h q v lt e) ∙ absent_of-own p h.formed q lt

pub end_from_next : (p : Problem) (firsts : List ℕ) → IsKept p firsts → (q v : ℕ) → q + 1 < package_count p → v ≡ get_or firsts (q + 1) v → v ≡ end_of p q
end_from_next p firsts h q v lt e = first_at p firsts h (q + 1) v lt e ∙ sym (end_of-next p q)

pub end_at_last : (p : Problem) → IsWellFormed p → (q : ℕ) → q < package_count p → package_count p ≤ q + 1 → version_count p ≡ end_of p q
end_at_last p w q lt le = sym (end_of-last p w q (omega arith))

pub absent-le-end : (p : Problem) → IsWellFormed p → (q : ℕ) → q < package_count p → absent_of p q ≤ end_of p q
absent-le-end p w q lt =
    let start = w.starts q lt in
    let place = place_from p w q (start_of p q) start.0 start.1 in
    omega (arith, place.0, place.1)
