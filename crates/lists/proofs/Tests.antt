-- Tests of all or some of a list, and what they find.
use Rattle.std.proofs.Common.{◌≡◌, ℕ, zero, suc, ◌+◌, ◌≤◌, List, [], ◌∷◌, ◌++◌, Bool, true, false, not, cond, ◌||◌, Some, None, length, position, get_or, take, drop, map, reverse, refl, ap, sym, ◌∙◌, arith, nat_lt}
use mathlib.Core.List.{reverse_aux}
use Rattle.std.specs.List.{list_all, list_any, filter, prefix_len, position_or_len}
use Rattle.std.proofs.Math.Bool.{or-false}
use Rattle.std.proofs.lemmas.Bool.{and_from, and_parts, ltb-false}
use Rattle.std.proofs.lemmas.Bool.Decides.{nat_tests}
use Rattle.std.proofs.lemmas.List.Folds.{list_all-append}

-- ---- all

module _ {A : Type 0} (p : A → Bool) where
  -- a weaker test
  pub list_all_weaker : (q : A → Bool) → ((y : A) → p y ≡ true → q y ≡ true) → (xs : List A) → list_all p xs ≡ true → list_all q xs ≡ true
  list_all_weaker q w [] h = refl
  list_all_weaker q w (x ∷ xs) h =
      let parts = and_parts (p x) (list_all p xs) h in
      and_from (q x) _ (w x parts.0) (list_all_weaker q w xs parts.1)

  pub list_all-filter : (q : A → Bool) (xs : List A) → list_all p xs ≡ true → list_all p (filter q xs) ≡ true
  list_all-filter q [] h = refl
  list_all-filter q (x ∷ xs) h =
      let parts = and_parts (p x) (list_all p xs) h in
      elim (q x) as (λ r. list_all p (cond r (x ∷ filter q xs) (filter q xs)) ≡ true) [
        | true ↦ and_from (p x) _ parts.0 (list_all-filter q xs parts.1)
        | false ↦ list_all-filter q xs parts.1
      ]

  -- a test that says less is passed by all that a filter keeps
  pub list_all-filter_weaker : (r : A → Bool) → ((c : A) → p c ≡ true → r c ≡ true) → (xs : List A) → list_all r (filter p xs) ≡ true
  list_all-filter_weaker r h [] = refl
  list_all-filter_weaker r h (x ∷ xs) =
      elim (p x) as (λ s. p x ≡ s → list_all r (cond s (x ∷ filter p xs) (filter p xs)) ≡ true) [
        | true ↦ λ e. and_from (r x) (list_all r (filter p xs)) (h x e) (list_all-filter_weaker r h xs)
        | false ↦ λ _. list_all-filter_weaker r h xs
      ] refl

  -- lists joined
  pub list_all-left : (xs ys : List A) → list_all p (xs ++ ys) ≡ true → list_all p xs ≡ true
  list_all-left xs ys h = (and_parts (list_all p xs) (list_all p ys) (sym (list_all-append p xs ys) ∙ h)).0

  pub list_all-right : (xs ys : List A) → list_all p (xs ++ ys) ≡ true → list_all p ys ≡ true
  list_all-right xs ys h = (and_parts (list_all p xs) (list_all p ys) (sym (list_all-append p xs ys) ∙ h)).1

  pub list_all-join : (xs ys : List A) → list_all p xs ≡ true → list_all p ys ≡ true → list_all p (xs ++ ys) ≡ true
  list_all-join xs ys h k = list_all-append p xs ys ∙ and_from (list_all p xs) (list_all p ys) h k

  pub list_all-end : (xs : List A) (n : A) → list_all p xs ≡ true → p n ≡ true → list_all p (xs ++ n ∷ []) ≡ true
  list_all-end xs n h k = list_all-join xs (n ∷ []) h (and_from (p n) true k refl)

  -- the longest front that passes
  pub list_all-prefix : (xs : List A) → list_all p (take (prefix_len p xs) xs) ≡ true
  list_all-prefix [] = refl
  list_all-prefix (x ∷ xs) =
      elim (p x) as (λ r. p x ≡ r → list_all p (take (cond r (1 + prefix_len p xs) 0) (x ∷ xs)) ≡ true) [
        | true ↦ λ h. let e : 1 + prefix_len p xs ≡ suc (prefix_len p xs) = omega arith in rw e (and_from (p x) _ h (list_all-prefix xs))
        | false ↦ λ _. refl
      ] refl

  pub prefix_len-longest : (xs : List A) (n : ℕ) → n ≤ length xs → list_all p (take n xs) ≡ true → n ≤ prefix_len p xs
  prefix_len-longest [] n le h = omega arith
  prefix_len-longest (x ∷ xs) zero le h = omega arith
  prefix_len-longest (x ∷ xs) (suc n) le h =
      let both = and_parts (p x) (list_all p (take n xs)) h in
      let more = prefix_len-longest xs n (omega arith) both.1 in
      rw both.0 (omega (arith, more))

  -- no element passes what all of them exclude
  pub list_any-excluded : (q : A → Bool) → ((x : A) → p x ≡ true → q x ≡ false) → (xs : List A) → list_all p xs ≡ true → list_any q xs ≡ false
  list_any-excluded q w [] h = refl
  list_any-excluded q w (x ∷ xs) h =
      let both = and_parts (p x) (list_all p xs) h in
      rw (w x both.0) (list_any-excluded q w xs both.1)

  -- ---- some

  pub list_any-place : (xs : List A) → list_any p xs ≡ nat_lt (position_or_len p xs) (length xs)
  list_any-place [] = refl
  list_any-place (x ∷ xs) =
      let rest = list_any-place xs in
      elim (p x) as (λ r. (r || list_any p xs) ≡ nat_lt (cond (not r) (1 + position_or_len p xs) 0) (suc (length xs))) [
        | true ↦ grind (arith, nat_tests)
        | false ↦ rest ∙ grind (arith, nat_tests)
      ]

  list_any-reverse_aux : (xs ys : List A) → list_any p (reverse_aux xs ys) ≡ (list_any p xs || list_any p ys)
  list_any-reverse_aux [] ys = refl
  list_any-reverse_aux (x ∷ xs) ys = list_any-reverse_aux xs (x ∷ ys) ∙ either (p x) (list_any p xs) (list_any p ys)
    where
      either : (a b c : Bool) → (b || (a || c)) ≡ ((a || b) || c)
      either true true c = refl
      either true false c = refl
      either false b c = refl

  pub list_any-reverse : (xs : List A) → list_any p (reverse xs) ≡ list_any p xs
  list_any-reverse xs = list_any-reverse_aux xs [] ∙ or-false (list_any p xs)

  -- tests that agree
  pub list_any-alike : (q : A → Bool) → ((x : A) → p x ≡ q x) → (xs : List A) → list_any p xs ≡ list_any q xs
  list_any-alike q alike [] = refl
  list_any-alike q alike (x ∷ xs) = ap (λ b. b || list_any p xs) (alike x) ∙ ap (λ c. q x || c) (list_any-alike q alike xs)

  kept-cases : (k : A → Bool) (z : A) (zs : List A) (b : Bool) → k z ≡ b → (k z ≡ false → p z ≡ false) → list_any p (filter k zs) ≡ list_any p zs
      → list_any p (cond b (z ∷ filter k zs) (filter k zs)) ≡ (p z || list_any p zs)
  kept-cases k z zs true e h rest = ap (λ c. p z || c) rest
  kept-cases k z zs false e h rest = rest ∙ sym (ap (λ c. c || list_any p zs) (h e))

  -- what is filtered out does not pass
  pub list_any-filter : (k : A → Bool) → ((z : A) → k z ≡ false → p z ≡ false) → (zs : List A) → list_any p (filter k zs) ≡ list_any p zs
  list_any-filter k h [] = refl
  list_any-filter k h (z ∷ zs) = kept-cases k z zs (k z) refl (h z) (list_any-filter k h zs)

pub list_any-map : {A B : Type 0} (p : B → Bool) (f : A → B) (xs : List A) → list_any p (map f xs) ≡ list_any (λ x. p (f x)) xs
list_any-map p f [] = refl
list_any-map p f (x ∷ xs) = ap (λ b. p (f x) || b) (list_any-map p f xs)

-- a list whose part up to a place, whose element there and whose part behind it pass
pub list_all-around : (p : ℕ → Bool) (xs : List ℕ) (m : ℕ) → list_all p (take m xs) ≡ true → p (get_or xs m 0) ≡ true → list_all p (drop (suc m) xs) ≡ true → list_all p xs ≡ true
list_all-around p [] m a b d = refl
list_all-around p (x ∷ xs) zero a b d = and_from (p x) (list_all p xs) b d
list_all-around p (x ∷ xs) (suc m) a b d =
    let both = and_parts (p x) (list_all p (take m xs)) a in
    and_from (p x) (list_all p xs) both.0 (list_all-around p xs m both.1 b d)

-- the first place, where there is one
position-chosen : {X : Type 0} (b : Bool) (x k : X) → Some k ≡ cond b (Some x) None → (b ≡ true) × (k ≡ x)
position-chosen true x k e = (refl, cc)
position-chosen false x k e = absurd (cc)

position-not_chosen : {X : Type 0} (b : Bool) (x : X) → None ≡ cond b (Some x) None → b ≡ false
position-not_chosen true x e = absurd (cc)
position-not_chosen false x e = refl

module _ {A : Type 0} (p : A → Bool) (xs : List A) where
  pub position_some : (k : ℕ) → Some k ≡ position p xs → (list_any p xs ≡ true) × (k ≡ position_or_len p xs)
  position_some k e =
      let both = position-chosen (nat_lt (position_or_len p xs) (length xs)) (position_or_len p xs) k e in
      (list_any-place p xs ∙ both.0, both.1)

  pub position_none : None ≡ position p xs → list_any p xs ≡ false
  position_none e = list_any-place p xs ∙ position-not_chosen (nat_lt (position_or_len p xs) (length xs)) (position_or_len p xs) e

  pub position_none_past : None ≡ position p xs → length xs ≤ position_or_len p xs
  position_none_past e = ltb-false (position_or_len p xs) (length xs) (position-not_chosen (nat_lt (position_or_len p xs) (length xs)) (position_or_len p xs) e)
