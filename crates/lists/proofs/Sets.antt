-- Finite sets as rising lists: members, places, filters, parts.
use Rattle.std.proofs.Common.{inl, inr, ◌≡◌, ◌≢◌, ◌<◌, ◌≤◌, ◌+◌, ℕ, zero, suc, List, [], ◌∷◌, ◌++◌, Bool, true, false, not, cond, ◌&&◌, ◌||◌, length, get_or, drop, refl, ap, sym, subst, ◌∙◌, arith, nat_lt, nat_eq, nat_le, IsTrue}
use Rattle.std.specs.List.{list_all, list_any, filter, dedup, dedup_from}
use Rattle.std.specs.List.Sorted.{IsStrictlyIncreasing}
use Rattle.std.proofs.Math.Nat.{eq-or-lt_of_le}
use Rattle.std.proofs.Math.Bool.{or-false}
use Rattle.std.proofs.lemmas.Bool.{and_from, and_parts, or_cases, or_left, or_right, or_parts, ltb-true, lt-ltb, leb-true, eqb-true, eq-eqb, not-true, not_from_false, false_from_ne_true}
use Rattle.std.proofs.lemmas.Bool.Decides.{nat_tests}
use Rattle.std.proofs.lemmas.List.Folds.{list_any-append}
use Rattle.std.proofs.lemmas.List.Kept.{AllPairs-from_increasing}
use Rattle.std.proofs.lemmas.List.Sums.{AllPass-from_list_all, list_all-from_AllPass}
use Rattle.lists.specs.Sets.{is_rising, has, is_subset, is_disjoint}
use Rattle.lists.proofs.Truth.{and_first, and_second, nat_eq-same}
use Rattle.lists.proofs.Tests.{list_all_weaker, list_all-filter, list_all-left, list_all-right, list_all-join, list_all-end}

-- ---- members and tests

pub has-first : (x : ℕ) (xs : List ℕ) → has (x ∷ xs) x ≡ true
has-first x xs = or_left (nat_eq x x) _ (nat_eq-same x)

-- a test that all pass is passed by each member
pub list_all-has : (p : ℕ → Bool) (xs : List ℕ) (c : ℕ) → list_all p xs ≡ true → has xs c ≡ true → p c ≡ true
list_all-has p [] c h m = absurd (cc)
list_all-has p (x ∷ xs) c h m =
    elim (or_cases (nat_eq x c) (has xs c) m) as (λ _. p c ≡ true) [
      | inl same ↦ let e : x ≡ c = eqb-true x c same in let px : p x ≡ true = (and_parts _ _ h).0 in rw (← e) px
      | inr there ↦ list_all-has p xs c (and_parts (p x) _ h).1 there
    ]

-- what each member passes, all pass
pub list_all-from_has : (p : ℕ → Bool) (xs : List ℕ) → ((c : ℕ) → has xs c ≡ true → p c ≡ true) → list_all p xs ≡ true
list_all-from_has p [] h = refl
list_all-from_has p (x ∷ xs) h = and_from (p x) _ (h x (has-first x xs)) (list_all-from_has p xs (λ c k. h c (or_right (nat_eq x c) _ k)))

-- a member that makes a test of some true
pub list_any-has : (f : ℕ → Bool) (xs : List ℕ) → list_any f xs ≡ true → (x : ℕ) × (has xs x ≡ true) × (f x ≡ true)
list_any-has f [] h = absurd (cc)
list_any-has f (x ∷ xs) h =
    elim (or_cases (f x) (list_any f xs) h) as (λ _. (y : ℕ) × (has (x ∷ xs) y ≡ true) × (f y ≡ true)) [
      | inl here ↦ (x, has-first x xs, here)
      | inr there ↦ let more = list_any-has f xs there in (more.0, or_right (nat_eq x more.0) _ more.1, more.2)
    ]

pub list_any-from_has : (f : ℕ → Bool) (xs : List ℕ) (x : ℕ) → has xs x ≡ true → f x ≡ true → list_any f xs ≡ true
list_any-from_has f [] x h k = absurd (cc)
list_any-from_has f (y ∷ xs) x h k =
    elim (or_cases (nat_eq y x) (has xs x) h) as (λ _. (f y || list_any f xs) ≡ true) [
      | inl e ↦ or_left (f y) _ (ap f (eqb-true y x e) ∙ k)
      | inr m ↦ or_right (f y) _ (list_any-from_has f xs x m k)
    ]

pub list_any-has_none : (f : ℕ → Bool) (xs : List ℕ) (x : ℕ) → list_any f xs ≡ false → has xs x ≡ true → f x ≡ false
list_any-has_none f [] x h m = absurd (cc)
list_any-has_none f (y ∷ xs) x h m =
    let parts = or_parts (f y) (list_any f xs) h in
    elim (or_cases (nat_eq y x) (has xs x) m) as (λ _. f x ≡ false) [
      | inl same ↦ let e : y ≡ x = eqb-true y x same in let no : f y ≡ false = parts.0 in rw (← e) no
      | inr there ↦ list_any-has_none f xs x parts.1 there
    ]

-- tests that agree at each member
pub list_any-agree : (f g : ℕ → Bool) (xs : List ℕ) → ((x : ℕ) → has xs x ≡ true → f x ≡ g x) → list_any f xs ≡ list_any g xs
list_any-agree f g [] e = refl
list_any-agree f g (x ∷ xs) e = ap (λ b. b || list_any f xs) (e x (has-first x xs)) ∙ ap (λ b. g x || b) (list_any-agree f g xs (λ y m. e y (or_right (nat_eq x y) _ m)))

-- ---- members and places

pub has_at : (xs : List ℕ) (c k : ℕ) → k < length xs → get_or xs k 0 ≡ c → has xs c ≡ true
has_at [] c k lt e = absurd (omega arith)
has_at (x ∷ xs) c zero lt e = or_left (nat_eq x c) _ (eq-eqb x c e)
has_at (x ∷ xs) c (suc k) lt e = or_right (nat_eq x c) _ (has_at xs c k (omega arith) e)

-- a member stands at a place
pub has_place : (xs : List ℕ) (c : ℕ) → has xs c ≡ true → (k : ℕ) × (k < length xs) × (get_or xs k 0 ≡ c)
has_place [] c h = absurd (cc)
has_place (x ∷ xs) c h =
    elim (or_cases (nat_eq x c) (has xs c) h) [
      | inl e ↦ (0, omega arith, eqb-true x c e)
      | inr there ↦ let rest = has_place xs c there in (suc rest.0, omega (arith, rest.1), rest.2)
    ]

-- a number that is not at a place of a list is not in it
pub has_none : (xs : List ℕ) (c : ℕ) → ((k : ℕ) → k < length xs → get_or xs k 0 ≢ c) → has xs c ≡ false
has_none [] c h = refl
has_none (x ∷ xs) c h =
    let apart : nat_eq x c ≡ false = grind (arith, nat_tests, h 0 (omega arith)) in
    rw apart (has_none xs c (λ k lt. h (suc k) (omega arith)))

-- ---- lists joined

pub has-append : (xs ys : List ℕ) (c : ℕ) → has (xs ++ ys) c ≡ (has xs c || has ys c)
has-append xs ys c = list_any-append (λ x. nat_eq x c) xs ys

pub has-end : (xs : List ℕ) (n c : ℕ) → has (xs ++ n ∷ []) c ≡ (has xs c || nat_eq n c)
has-end xs n c = has-append xs (n ∷ []) c ∙ ap (λ b. has xs c || b) (or-false (nat_eq n c))

-- two rising lists, of which one is below a number and the other is not
pub is_rising-append : (m : ℕ) (xs ys : List ℕ) → is_rising xs ≡ true → is_rising ys ≡ true → list_all (λ x. nat_lt x m) xs ≡ true → list_all (λ y. nat_le m y) ys ≡ true → is_rising (xs ++ ys) ≡ true
is_rising-append m [] ys h k low high = k
is_rising-append m (x ∷ xs) ys h k low high =
    let rises = and_parts (list_all (λ y. nat_lt x y) xs) (is_rising xs) h in
    let less : x < m = ltb-true x m (and_parts (nat_lt x m) (list_all (λ x. nat_lt x m) xs) low).0 in
    let behind : list_all (λ y. nat_lt x y) ys ≡ true = list_all_weaker (λ y. nat_le m y) (λ y. nat_lt x y) (λ y e. lt-ltb x y (omega (arith, leb-true m y e))) ys high in
    and_from (list_all (λ y. nat_lt x y) (xs ++ ys)) (is_rising (xs ++ ys)) (list_all-join (λ y. nat_lt x y) xs ys rises.0 behind)
    (is_rising-append m xs ys rises.1 k (and_parts (nat_lt x m) (list_all (λ x. nat_lt x m) xs) low).1 high)

pub is_rising-end : (xs : List ℕ) (n : ℕ) → is_rising xs ≡ true → list_all (λ x. nat_lt x n) xs ≡ true → is_rising (xs ++ n ∷ []) ≡ true
is_rising-end [] n r h = refl
is_rising-end (x ∷ xs) n r h =
    let rises = and_parts (list_all (λ z. nat_lt x z) xs) (is_rising xs) r in
    let all = and_parts (nat_lt x n) (list_all (λ x. nat_lt x n) xs) h in
    and_from (list_all (λ z. nat_lt x z) (xs ++ n ∷ [])) _ (list_all-end (λ z. nat_lt x z) xs n rises.0 all.0) (is_rising-end xs n rises.1 all.1)

-- a rising list without one member
pub is_rising-left_out : (xs : List ℕ) (c : ℕ) (ys : List ℕ) → is_rising (xs ++ c ∷ ys) ≡ true → is_rising (xs ++ ys) ≡ true
is_rising-left_out [] c ys h = (and_parts (list_all (λ z. nat_lt c z) ys) _ h).1
is_rising-left_out (x ∷ xs) c ys h =
    let parts = and_parts (list_all (λ z. nat_lt x z) (xs ++ c ∷ ys)) _ h in
    let q : ℕ → Bool = λ z. nat_lt x z in
    and_from (list_all q (xs ++ ys)) _
    (list_all-join q xs ys (list_all-left q xs (c ∷ ys) parts.0) (and_parts (q c) _ (list_all-right q xs (c ∷ ys) parts.0)).1)
    (is_rising-left_out xs c ys parts.1)

-- ---- filters

pub has-filter : (q : ℕ → Bool) (xs : List ℕ) (c : ℕ) → has (filter q xs) c ≡ (q c && has xs c)
has-filter q [] c = elim (q c) as (λ r. false ≡ (r && false)) [ true ↦ refl | false ↦ refl ]
has-filter q (x ∷ xs) c =
    elim (nat_eq x c) as (λ r. nat_eq x c ≡ r → has (filter q (x ∷ xs)) c ≡ (q c && (r || has xs c))) [
      | true ↦ λ e. let same : x ≡ c = eqb-true x c e in
          elim (q x) as (λ r. q x ≡ r → has (filter q (x ∷ xs)) c ≡ (q c && true)) [
            | true ↦ λ t. let there : q c ≡ true = rw (← same) t in rw (t, e, there) refl
            | false ↦ λ f. let not_there : q c ≡ false = rw (← same) f in rw (f, not_there) (has-filter q xs c ∙ rw not_there refl)
          ] refl
      | false ↦ λ e.
          elim (q x) as (λ r. q x ≡ r → has (filter q (x ∷ xs)) c ≡ (q c && has xs c)) [
            | true ↦ λ t. rw (t, e) (has-filter q xs c)
            | false ↦ λ f. rw f (has-filter q xs c)
          ] refl
    ] refl

pub has-filter_from : (p : ℕ → Bool) (xs : List ℕ) (c : ℕ) → p c ≡ true → has xs c ≡ true → has (filter p xs) c ≡ true
has-filter_from p xs c t h = has-filter p xs c ∙ and_from (p c) (has xs c) t h

pub has-filter_back : (q : ℕ → Bool) (xs : List ℕ) (c : ℕ) → has (filter q xs) c ≡ true → (has xs c ≡ true) × (q c ≡ true)
has-filter_back q xs c h = let parts = and_parts (q c) (has xs c) (sym (has-filter q xs c) ∙ h) in (parts.1, parts.0)

pub has-filter_parts : (p : ℕ → Bool) (xs : List ℕ) (c : ℕ) → has (filter p xs) c ≡ true → (p c ≡ true) × (has xs c ≡ true)
has-filter_parts p xs c h = and_parts (p c) (has xs c) (sym (has-filter p xs c) ∙ h)

pub is_rising-filter : (q : ℕ → Bool) (xs : List ℕ) → IsTrue (is_rising xs) → IsTrue (is_rising (filter q xs))
is_rising-filter q [] h = refl
is_rising-filter q (x ∷ xs) h =
    elim (q x) as (λ r. is_rising (cond r (x ∷ filter q xs) (filter q xs)) ≡ true) [
      | true ↦ and_from (list_all (λ y. nat_lt x y) (filter q xs)) _ (list_all-filter (λ y. nat_lt x y) q xs (and_first _ _ h)) (is_rising-filter q xs (and_second _ _ h))
      | false ↦ is_rising-filter q xs (and_second _ _ h)
    ]

-- ---- rising lists

-- a number below all of a list is below the one at each place
pub below_all : (x : ℕ) (xs : List ℕ) → list_all (λ y. nat_lt x y) xs ≡ true → (k : ℕ) → k < length xs → x < get_or xs k 0
below_all x xs h k lt = ltb-true x (get_or xs k 0) (AllPass-from_list_all (λ y. nat_lt x y) xs h k 0 lt)

-- an earlier place has the lesser number
pub rising_at : (xs : List ℕ) → IsTrue (is_rising xs) → (i j : ℕ) → i < j → j < length xs → get_or xs i 0 < get_or xs j 0
rising_at [] h i j a b = absurd (omega arith)
rising_at (x ∷ xs) h i zero a b = absurd (omega arith)
rising_at (x ∷ xs) h zero (suc j) a b = below_all x xs (and_first _ _ h) j (omega arith)
rising_at (x ∷ xs) h (suc i) (suc j) a b = rising_at xs (and_second _ _ h) i j (omega arith) (omega arith)

pub rising_upto : (xs : List ℕ) → IsTrue (is_rising xs) → (i j : ℕ) → i ≤ j → j < length xs → get_or xs i 0 ≤ get_or xs j 0
rising_upto xs h i j a b =
    elim (eq-or-lt_of_le {n = i} {m = j} a) as (λ _. get_or xs i 0 ≤ get_or xs j 0) [
      | inl e ↦ rw e (omega arith)
      | inr lt ↦ omega (arith, rising_at xs h i j lt b)
    ]

pub is_rising-drop : (xs : List ℕ) (k : ℕ) → IsTrue (is_rising xs) → IsTrue (is_rising (drop k xs))
is_rising-drop xs zero h = h
is_rising-drop [] (suc k) h = refl
is_rising-drop (x ∷ xs) (suc k) h = is_rising-drop xs k (and_second _ _ h)

-- a member of a list above a number is above it
pub has_above : (y s : ℕ) (ys : List ℕ) → list_all (λ z. nat_lt y z) ys ≡ true → has ys s ≡ true → y < s
has_above y s ys above h = ltb-true y s (list_all-has (λ z. nat_lt y z) ys s above h)

pub rising_apart : (c y : ℕ) (set : List ℕ) → list_all (λ z. nat_lt c z) set ≡ true → has set y ≡ true → c ≢ y
rising_apart c y set h m e = absurd (omega (arith, has_above c y set h m))

-- a number that is not above one below all of a list is not in it
pub has_none_upto : (ys : List ℕ) (x c : ℕ) → list_all (λ y. nat_lt x y) ys ≡ true → c ≤ x → has ys c ≡ false
has_none_upto ys x c h le = false_from_ne_true _ (λ m. let up = has_above x c ys h m in absurd (omega arith))

-- members of a list above y are no y
pub has-behind : (y : ℕ) (ys set : List ℕ) → list_all (λ s. nat_lt y s) set ≡ true → list_all (has (y ∷ ys)) set ≡ true → list_all (has ys) set ≡ true
has-behind y ys [] above h = refl
has-behind y ys (s ∷ set) above h =
    let lt : y < s = ltb-true y s (and_parts _ _ above).0 in
    elim (or_cases (nat_eq y s) (has ys s) (and_parts _ _ h).0) as (λ _. list_all (has ys) (s ∷ set) ≡ true) [
      | inl same ↦ let e : y ≡ s = eqb-true y s same in absurd (omega arith)
      | inr there ↦ and_from (has ys s) _ there (has-behind y ys set (and_parts (nat_lt y s) _ above).1 (and_parts _ _ h).1)
    ]

-- A rising list of numbers below n has at most n of them.
rising_room : (x n : ℕ) (xs : List ℕ) → x < n → list_all (λ y. nat_lt x y) xs ≡ true → is_rising xs ≡ true → list_all (λ y. nat_lt y n) xs ≡ true → x + 1 + length xs ≤ n
rising_room x n [] lt a r b = omega arith
rising_room x n (y ∷ xs) lt a r b =
    let rest = and_parts (list_all (λ z. nat_lt y z) xs) (is_rising xs) r in
    let all = and_parts (nat_lt y n) (list_all (λ z. nat_lt z n) xs) b in
    let more : y + 1 + length xs ≤ n = rising_room y n xs (ltb-true y n all.0) rest.0 rest.1 all.1 in
    let up : x < y = ltb-true x y (and_first _ _ a) in
    omega (arith, more)

pub length-rising : (n : ℕ) (xs : List ℕ) → is_rising xs ≡ true → list_all (λ y. nat_lt y n) xs ≡ true → length xs ≤ n
length-rising n [] r b = omega arith
length-rising n (x ∷ xs) r b =
    omega (arith, rising_room x n xs (ltb-true x n (and_first _ _ b)) (and_first _ _ r) (and_second _ _ r) (and_second (nat_lt x n) _ b))

-- a strictly increasing list rises
pub is_rising-increasing : (xs : List ℕ) → IsStrictlyIncreasing xs → is_rising xs ≡ true
is_rising-increasing [] up = refl
is_rising-increasing (x ∷ xs) up =
    and_from (list_all (λ y. nat_lt x y) xs) (is_rising xs)
    (list_all-from_AllPass (λ y. nat_lt x y) xs (λ k d lt. lt-ltb x (get_or xs k d) (AllPairs-from_increasing (x ∷ xs) up 0 (suc k) d (omega arith) (omega arith))))
    (is_rising-increasing xs (λ k lt.
    let next : suc k + 1 ≡ suc (k + 1) = omega arith in
    let P : ℕ → Type 0 = λ m. get_or xs k 0 < get_or (x ∷ xs) m 0 in
    subst P next (up (suc k) (omega arith))))

-- a sort's removal of repeats
same-number : (a b c : ℕ) (r : Bool) → nat_eq a b ≡ true → (nat_eq b c || (nat_eq a c || r)) ≡ (nat_eq b c || r)
same-number a b c r e = elim r as (λ s. (nat_eq b c || (nat_eq a c || s)) ≡ (nat_eq b c || s)) [ true ↦ grind (arith, nat_tests) | false ↦ grind (arith, nat_tests) ]

has-dedup_from : (x : ℕ) (xs : List ℕ) (c : ℕ) → has (dedup_from nat_eq x xs) c ≡ (nat_eq x c || has xs c)
has-dedup_from x [] c = refl
has-dedup_from x (y ∷ ys) c =
    elim (nat_eq y x) as (λ b. nat_eq y x ≡ b → has (cond b (dedup_from nat_eq x ys) (x ∷ dedup_from nat_eq y ys)) c ≡ (nat_eq x c || (nat_eq y c || has ys c))) [
      | true ↦ λ e. has-dedup_from x ys c ∙ sym (same-number y x c (has ys c) e)
      | false ↦ λ e. ap (λ b. nat_eq x c || b) (has-dedup_from y ys c)
    ] refl

pub has-dedup : (xs : List ℕ) (c : ℕ) → has (dedup nat_eq xs) c ≡ has xs c
has-dedup [] c = refl
has-dedup (x ∷ xs) c = has-dedup_from x xs c

-- Rising lists with the same members are equal.
first_least : (x c : ℕ) (xs : List ℕ) → list_all (λ y. nat_lt x y) xs ≡ true → has (x ∷ xs) c ≡ true → x ≤ c
first_least x c xs above there =
    elim (or_cases (nat_eq x c) (has xs c) there) as (λ _. x ≤ c) [
      | inl e ↦ omega (arith, eqb-true x c e)
      | inr m ↦ omega (arith, has_above x c xs above m)
    ]

tail-cases : (x c : ℕ) (xs ys : List ℕ) (b : Bool) → nat_eq x c ≡ b → list_all (λ y. nat_lt x y) xs ≡ true → list_all (λ y. nat_lt x y) ys ≡ true
    → (b || has xs c) ≡ (b || has ys c) → has xs c ≡ has ys c
tail-cases x c xs ys true e ax ay h = let le : c ≤ x = grind (arith, nat_tests) in has_none_upto xs x c ax le ∙ sym (has_none_upto ys x c ay le)
tail-cases x c xs ys false e ax ay h = h

pub rising_same : (xs ys : List ℕ) → is_rising xs ≡ true → is_rising ys ≡ true → ((c : ℕ) → has xs c ≡ has ys c) → xs ≡ ys
rising_same [] [] rx ry h = refl
rising_same [] (y ∷ ys) rx ry h = let first : has (y ∷ ys) y ≡ true = has-first y ys in let none : false ≡ has (y ∷ ys) y = h y in absurd (cc)
rising_same (x ∷ xs) [] rx ry h = let first : has (x ∷ xs) x ≡ true = has-first x xs in let none : has (x ∷ xs) x ≡ false = h x in absurd (cc)
rising_same (x ∷ xs) (y ∷ ys) rx ry h =
    let px = and_parts (list_all (λ z. nat_lt x z) xs) (is_rising xs) rx in
    let py = and_parts (list_all (λ z. nat_lt y z) ys) (is_rising ys) ry in
    let up : x ≤ y = first_least x y xs px.0 (h y ∙ has-first y ys) in
    let down : y ≤ x = first_least y x ys py.0 (sym (h x) ∙ has-first x xs) in
    let same : y ≡ x = omega arith in
    let above : list_all (λ z. nat_lt x z) ys ≡ true = rw (sym same) py.0 in
    let first : (c : ℕ) → (nat_eq x c || has xs c) ≡ (nat_eq x c || has ys c) = λ c. h c ∙ ap (λ n. nat_eq n c || has ys c) same in
    let rest : xs ≡ ys = rising_same xs ys px.1 py.1 (λ c. tail-cases x c xs ys (nat_eq x c) refl px.0 above (first c)) in
    ap (λ n. n ∷ xs) (sym same) ∙ ap (λ zs. y ∷ zs) rest

-- ---- parts, and sets apart

pub is_subset-refl : (a : List ℕ) → is_subset a a ≡ true
is_subset-refl a = list_all-from_has (has a) a (λ c m. m)

pub is_subset-trans : (a b c : List ℕ) → is_subset a b ≡ true → is_subset b c ≡ true → is_subset a c ≡ true
is_subset-trans a b c h k = list_all_weaker (has b) (has c) (λ x m. list_all-has (has c) b x k m) a h

pub is_disjoint-at : (xs ys : List ℕ) (c : ℕ) → is_disjoint xs ys ≡ true → has xs c ≡ true → has ys c ≡ false
is_disjoint-at xs ys c h m = not-true _ (list_all-has (λ x. not (has ys x)) xs c h m)

pub is_disjoint-from_has : (xs ys : List ℕ) → ((c : ℕ) → has xs c ≡ true → has ys c ≡ false) → is_disjoint xs ys ≡ true
is_disjoint-from_has xs ys h = list_all-from_has (λ x. not (has ys x)) xs (λ c m. not_from_false _ (h c m))

pub is_disjoint-sym : (xs ys : List ℕ) → is_disjoint xs ys ≡ true → is_disjoint ys xs ≡ true
is_disjoint-sym xs ys h = is_disjoint-from_has ys xs (λ c m. false_from_ne_true _ (λ k. let gone = is_disjoint-at xs ys c h k in let f : true ≡ false = sym m ∙ gone in cc))

-- what avoids a set avoids its parts
pub is_disjoint-part : (xs part set : List ℕ) → is_subset part set ≡ true → is_disjoint xs set ≡ true → is_disjoint xs part ≡ true
is_disjoint-part xs part set h k =
    is_disjoint-from_has xs part (λ c m. false_from_ne_true _ (λ t.
    let there = list_all-has (has set) part c h t in
    let gone = is_disjoint-at xs set c k m in
    let f : true ≡ false = sym there ∙ gone in
    cc))

-- a part of a set, and what avoids the set
pub is_disjoint-subset : (xs ys set : List ℕ) → is_subset xs set ≡ true → is_disjoint ys set ≡ true → is_disjoint xs ys ≡ true
is_disjoint-subset xs ys set h k =
    is_disjoint-from_has xs ys (λ c m. false_from_ne_true _ (λ t.
    let there = list_all-has (has set) xs c h m in
    let gone = is_disjoint-at ys set c k t in
    let f : true ≡ false = sym there ∙ gone in
    cc))
