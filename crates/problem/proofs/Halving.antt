-- In a rising list the numbers below one come first, so their count is the place of the first one within a range.
use Rattle.std.proofs.Common.{◌≡◌, ◌<◌, ◌≤◌, ◌+◌, ℕ, zero, suc, length, get_or, List, [], ◌∷◌, Bool, true, false, cond, ◌&&◌, nat_lt, nat_le, Option, Some, None, refl, ap, sym, ◌∙◌, arith}
use Rattle.std.specs.List.{find, list_all, count_by, slice_get}
use Rattle.std.proofs.lemmas.Bool.{and_parts, ltb-true, ltb-false, le-leb, leb-true, false_from_ne_true}
use Rattle.std.proofs.lemmas.Option.{slice_get_past}
use Rattle.std.proofs.lemmas.List.Sums.{sum_by-cons}
use Rattle.lists.specs.Sets.{is_rising}
use Rattle.problem.specs.Halving.{if_before}

-- how many numbers are below one
abbrev pub below_count : ℕ → List ℕ → ℕ
below_count first xs = count_by (λ n. nat_lt n first) xs

abbrev pub first_from : ℕ → ℕ → List ℕ → Option ℕ
first_from first end xs = find (λ n. nat_le first n && nat_lt n end) xs

count_more : (first x : ℕ) (xs : List ℕ) → below_count first (x ∷ xs) ≡ cond (nat_lt x first) 1 0 + below_count first xs
count_more first x xs = sum_by-cons (λ n. cond (nat_lt n first) 1 0) x xs

not_below : (first y : ℕ) → first ≤ y → nat_lt y first ≡ false
not_below first y le = false_from_ne_true _ (λ h. absurd (omega (arith, ltb-true y first h)))

none_below : (first x : ℕ) (xs : List ℕ) → first ≤ x → list_all (λ y. nat_lt x y) xs ≡ true → below_count first xs ≡ 0
none_below first x [] le h = refl
none_below first x (y ∷ ys) le h =
    let parts = and_parts (nat_lt x y) (list_all (λ z. nat_lt x z) ys) h in
    let above : x < y = ltb-true x y parts.0 in
    count_more first y ys
    ∙ ap (λ b. cond b 1 0 + below_count first ys) (not_below first y (omega arith))
    ∙ ap (λ m. 0 + m) (none_below first x ys le parts.1)

none_from : (first end x : ℕ) (xs : List ℕ) → end ≤ x → list_all (λ y. nat_lt x y) xs ≡ true → first_from first end xs ≡ None
none_from first end x [] le h = refl
none_from first end x (y ∷ ys) le h =
    let parts = and_parts (nat_lt x y) (list_all (λ z. nat_lt x z) ys) h in
    let above : x < y = ltb-true x y parts.0 in
    let past : (nat_le first y && nat_lt y end) ≡ false
    = false_from_ne_true _ (λ k. absurd (omega (arith, above, le, ltb-true y end (and_parts (nat_le first y) (nat_lt y end) k).1))) in
    ap (λ b. cond b (Some y) (first_from first end ys)) past ∙ none_from first end x ys le parts.1

-- the first number of a rising list that is not below `first`, if it is before the end
at_or_behind : (first end x : ℕ) (xs : List ℕ) (b : Bool) → nat_lt x end ≡ b → list_all (λ y. nat_lt x y) xs ≡ true → cond b (Some x) None ≡ cond b (Some x) (first_from first end xs)
at_or_behind first end x xs true e h = refl
at_or_behind first end x xs false e h = sym (none_from first end x xs (ltb-false x end e) h)

first_at_more : (first end x : ℕ) (xs : List ℕ) (b : Bool) → nat_lt x first ≡ b → list_all (λ y. nat_lt x y) xs ≡ true → if_before end (slice_get xs (below_count first xs)) ≡ first_from first end xs → if_before end (slice_get (x ∷ xs) (below_count first (x ∷ xs))) ≡ first_from first end (x ∷ xs)
first_at_more first end x xs true e above rest =
    let past : (nat_le first x && nat_lt x end) ≡ false
    = false_from_ne_true _ (λ k. absurd (omega (arith, ltb-true x first e, leb-true first x (and_parts (nat_le first x) (nat_lt x end) k).0))) in
    let one : 1 + below_count first xs ≡ suc (below_count first xs) = omega arith in
    ap (λ k. if_before end (slice_get (x ∷ xs) k)) (count_more first x xs ∙ ap (λ b. cond b 1 0 + below_count first xs) e ∙ one)
    ∙ rest
    ∙ sym (ap (λ b. cond b (Some x) (first_from first end xs)) past)
first_at_more first end x xs false e above rest =
    let le : first ≤ x = ltb-false x first e in
    ap (λ k. if_before end (slice_get (x ∷ xs) k)) (count_more first x xs ∙ ap (λ b. cond b 1 0 + below_count first xs) e ∙ ap (λ m. 0 + m) (none_below first x xs le above))
    ∙ at_or_behind first end x xs (nat_lt x end) refl above
    ∙ sym (ap (λ b. cond (b && nat_lt x end) (Some x) (first_from first end xs)) (le-leb first x le))

pub first_at : (first end : ℕ) (xs : List ℕ) → is_rising xs ≡ true → if_before end (slice_get xs (below_count first xs)) ≡ first_from first end xs
first_at first end [] h = refl
first_at first end (x ∷ xs) h =
    let parts = and_parts (list_all (λ y. nat_lt x y) xs) (is_rising xs) h in
    first_at_more first end x xs (nat_lt x first) refl parts.0 (first_at first end xs parts.1)

-- what a place has
pub before_past : (end : ℕ) (xs : List ℕ) (k : ℕ) → length xs ≤ k → None ≡ if_before end (slice_get xs k)
before_past end xs k le = sym (ap (if_before end) (slice_get_past xs k le))

slice_get_at : (xs : List ℕ) (k : ℕ) → k < length xs → slice_get xs k ≡ Some (get_or xs k 0)
slice_get_at [] k lt = absurd (omega arith)
slice_get_at (x ∷ xs) zero lt = refl
slice_get_at (x ∷ xs) (suc k) lt = slice_get_at xs k (omega arith)

pub before_at : (end : ℕ) (xs : List ℕ) (k : ℕ) → k < length xs → cond (nat_lt (get_or xs k 0) end) (Some (get_or xs k 0)) None ≡ if_before end (slice_get xs k)
before_at end xs k lt = sym (ap (if_before end) (slice_get_at xs k lt))
