-- Tests of all numbers below one.
use Rattle.std.proofs.Common.{◌≡◌, ◌<◌, ◌≤◌, ◌+◌, ℕ, zero, suc, [], ◌∷◌, ◌++◌, Bool, true, false, cond, ◌||◌, add-one, refl, ap, sym, ◌∙◌, arith, length, length-append, nat_lt, nat_eq, count_by}
use Rattle.std.specs.List.{list_all, filter}
use Rattle.std.proofs.lemmas.Bool.{false_from_ne_true, ltb-true, lt-ltb, le-ltb}
use Rattle.std.proofs.lemmas.Bool.Decides.{nat_tests}
use Rattle.std.proofs.lemmas.List.{append-nil}
use Rattle.std.proofs.lemmas.List.Elements.{filter-append}
use Rattle.std.proofs.lemmas.List.Sums.{count_by-le-length, sum_by-cons, sum_by-append}
use Rattle.lists.specs.Below.{below}
use Rattle.lists.specs.Sets.{is_rising, has}
use Rattle.lists.proofs.Tests.{list_all_weaker, list_all-end}
use Rattle.lists.proofs.Sets.{list_all-has, has-end, is_rising-end}

pub below-next : (n : ℕ) → below (n + 1) ≡ below n ++ n ∷ []
below-next n = ap below (add-one n)

pub length-below : (n : ℕ) → length (below n) ≡ n
length-below zero = refl
length-below (suc n) = omega (arith, length-append (below n) (n ∷ []), length-below n)

pub list_all-below : (n : ℕ) → list_all (λ x. nat_lt x n) (below n) ≡ true
list_all-below zero = refl
list_all-below (suc n) =
    list_all-end (λ x. nat_lt x (suc n)) (below n) n
    (list_all_weaker (λ x. nat_lt x n) (λ x. nat_lt x (suc n)) (λ x k. lt-ltb x (suc n) (omega (arith, ltb-true x n k))) (below n) (list_all-below n))
    (lt-ltb n (suc n) (omega arith))

pub is_rising-below : (n : ℕ) → is_rising (below n) ≡ true
is_rising-below zero = refl
is_rising-below (suc n) = is_rising-end (below n) n (is_rising-below n) (list_all-below n)

pub has-below : (n c : ℕ) → has (below n) c ≡ nat_lt c n
has-below zero c = sym (le-ltb c 0 (omega arith))
has-below (suc n) c = has-end (below n) n c ∙ ap (λ r. r || nat_eq n c) (has-below n c) ∙ grind (arith, nat_tests)

pub has-below_from : (n c : ℕ) → c < n → has (below n) c ≡ true
has-below_from n c h = has-below n c ∙ lt-ltb c n h

pub has-below_back : (n c : ℕ) → has (below n) c ≡ true → c < n
has-below_back n c m = ltb-true c n (sym (has-below n c) ∙ m)

-- ---- tests

pub list_all-below_more : (p : ℕ → Bool) (n : ℕ) → list_all p (below n) ≡ true → p n ≡ true → list_all p (below (n + 1)) ≡ true
list_all-below_more p n h k = rw add-one (list_all-end p (below n) n h k)

pub list_all-below_at : (p : ℕ → Bool) (n c : ℕ) → list_all p (below n) ≡ true → c < n → p c ≡ true
list_all-below_at p n c h lt = list_all-has p (below n) c h (has-below_from n c lt)

pub list_all-below_fails : (p : ℕ → Bool) (n c : ℕ) → c < n → p c ≡ false → list_all p (below n) ≡ false
list_all-below_fails p n c lt f = false_from_ne_true _ (λ h. let yes : p c ≡ true = list_all-below_at p n c h lt in cc)

-- ---- filters and counts

pub filter-below_yes : (p : ℕ → Bool) (n : ℕ) → p n ≡ true → filter p (below (n + 1)) ≡ filter p (below n) ++ n ∷ []
filter-below_yes p n h = ap (filter p) (below-next n) ∙ filter-append p (below n) (n ∷ []) ∙ ap (λ b. filter p (below n) ++ cond b (n ∷ []) []) h

pub filter-below_no : (p : ℕ → Bool) (n : ℕ) → p n ≡ false → filter p (below (n + 1)) ≡ filter p (below n)
filter-below_no p n h = ap (filter p) (below-next n) ∙ filter-append p (below n) (n ∷ []) ∙ ap (λ b. filter p (below n) ++ cond b (n ∷ []) []) h ∙ append-nil (filter p (below n))

-- none passes
pub filter-below_none : (p : ℕ → Bool) (n : ℕ) → ((c : ℕ) → c < n → p c ≡ false) → filter p (below n) ≡ []
filter-below_none p zero h = refl
filter-below_none p (suc n) h =
    ap (filter p) (ap below (sym (add-one n))) ∙ filter-below_no p n (h n (omega arith)) ∙ filter-below_none p n (λ c lt. h c (omega arith))

-- one more number is counted if it passes
pub count_by-below_yes : (p : ℕ → Bool) (n : ℕ) → p n ≡ true → count_by p (below (n + 1)) ≡ count_by p (below n) + 1
count_by-below_yes p n h =
    let f : ℕ → ℕ = λ x. cond (p x) 1 0 in
    let one : f n ≡ 1 = rw h refl in
    rw (below-next n) (omega (arith, sum_by-append f (below n) (n ∷ []), sum_by-cons f n [], one))

pub count_by-below_no : (p : ℕ → Bool) (n : ℕ) → p n ≡ false → count_by p (below (n + 1)) ≡ count_by p (below n)
count_by-below_no p n h =
    let f : ℕ → ℕ = λ x. cond (p x) 1 0 in
    let none : f n ≡ 0 = rw h refl in
    rw (below-next n) (omega (arith, sum_by-append f (below n) (n ∷ []), sum_by-cons f n [], none))

pub count_by-below-le : (p : ℕ → Bool) (n : ℕ) → count_by p (below n) ≤ n
count_by-below-le p n = omega (arith, count_by-le-length p (below n), length-below n)
