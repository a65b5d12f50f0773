-- Tests that some item passes, and the first place at which one does.
use Rattle.std.proofs.Common.{◌≡◌, ℕ, ◌<◌, Bool, true, false, cond, List, [], ◌∷◌, ◌++◌, length, get_or, ap, ◌∙◌, arith, Some, filter, find, inl, inr, position, lt-ltb, ltb, None, ◌≤◌}
use Rattle.std.specs.List.{list_any, position_or_len}
use Rattle.std.proofs.lemmas.Bool.{or_left, or_right, or_cases, cases_lt, cond-true}
use Rattle.std.proofs.lemmas.List.Elements.{filter-append}
use Rattle.std.proofs.lemmas.List.Folds.{list_any-append, Any-from_list_any}
use Rattle.std.proofs.lemmas.List.Sums.{fails_before_first, position_or_len_is}

pub list_any-weaker : {A : Type 0} (p r : A → Bool) → ((x : A) → p x ≡ true → r x ≡ true) → (xs : List A) → list_any p xs ≡ true → list_any r xs ≡ true
list_any-weaker p r more [] h = absurd (cc)
list_any-weaker p r more (x ∷ xs) h =
    elim (or_cases (p x) (list_any p xs) h) [
      | inl e ↦ or_left (r x) (list_any r xs) (more x e)
      | inr e ↦ or_right (r x) (list_any r xs) (list_any-weaker p r more xs e)
    ]

pub place-within : {A : Type 0} (p : A → Bool) (xs : List A) → list_any p xs ≡ true → position_or_len p xs < length xs
place-within {A = A} p xs h =
    let some = Any-from_list_any p xs h in
    elim (cases_lt (position_or_len p xs) (length xs)) [
      | inl l ↦ l
      | inr l ↦ absurd (both some.0 some.1 some.2 some.3 some.4 l)
    ]
  where
    both : (k : ℕ) (x : A) → k < length xs → get_or xs k x ≡ x → p x ≡ true → length xs ≤ position_or_len p xs → ⊥
    both k x l same at past =
        let fails = fails_before_first p xs k x (omega arith) in
        let passes = ap p same ∙ at in
        absurd (cc)

-- the first place is one that passes, behind places that fail
pub position-is : {A : Type 0} (p : A → Bool) (xs : List A) (i : ℕ) (d : A) → i < length xs → ((k : ℕ) → k < i → p (get_or xs k d) ≡ false) → p (get_or xs i d) ≡ true
    → position_or_len p xs ≡ i
position-is p xs i d l before at = position_or_len_is p xs i d (omega arith) before (λ _. at)

pub position-some : {A : Type 0} (p : A → Bool) (xs : List A) (i : ℕ) (d : A) → i < length xs → ((k : ℕ) → k < i → p (get_or xs k d) ≡ false) → p (get_or xs i d) ≡ true
    → position p xs ≡ Some i
position-some p xs i d l before at =
    let same = position-is p xs i d l before at in
    cond-true (ltb (position_or_len p xs) (length xs)) (Some (position_or_len p xs)) None (lt-ltb (position_or_len p xs) (length xs) (omega arith)) ∙ ap Some same

-- what `find` gives is among what a filter keeps
pub found-kept : {A : Type 0} (p r : A → Bool) (xs : List A) (x : A) → find p xs ≡ Some x → r x ≡ true → list_any r (filter p xs) ≡ true
found-kept p r [] x e h = absurd (cc)
found-kept p r (y ∷ ys) x e h = by (p y) e (λ e. found-kept p r ys x e h)
  where
    by : (b : Bool) → cond b (Some y) (find p ys) ≡ Some x → (find p ys ≡ Some x → list_any r (filter p ys) ≡ true) → list_any r (cond b (y ∷ filter p ys) (filter p ys)) ≡ true
    by true e more = let same : y ≡ x = cc in or_left (r y) (list_any r (filter p ys)) (ap r same ∙ h)
    by false e more = more e

pub kept-front : {A : Type 0} (p r : A → Bool) (xs ys : List A) → list_any r (filter p xs) ≡ true → list_any r (filter p (xs ++ ys)) ≡ true
kept-front p r xs ys h =
    ap (list_any r) (filter-append p xs ys) ∙ list_any-append r (filter p xs) (filter p ys) ∙ or_left (list_any r (filter p xs)) (list_any r (filter p ys)) h
