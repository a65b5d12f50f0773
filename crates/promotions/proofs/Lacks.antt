-- What a set lacks of another decides which one more choice makes it up.
use Rattle.std.proofs.Common.{inl, inr, ◌≡◌, ◌<◌, ◌≤◌, ◌+◌, ℕ, zero, suc, List, [], ◌∷◌, Bool, true, false, cond, ◌&&◌, ◌||◌, length, get_or, drop, refl, ap, sym, subst, ◌∙◌, add-one, arith, nat_lt, nat_eq}
use Rattle.std.specs.List.{list_all}
use Rattle.std.proofs.lemmas.Bool.{eqb-true, eq-eqb, ltb-true, false_from_ne_true}
use Rattle.std.proofs.lemmas.Bool.Decides.{nat_tests}
use Rattle.std.proofs.Math.Bool.{or-false}
use Rattle.lists.proofs.Sets.{below_all, has_none, is_rising-drop}
use Rattle.lists.proofs.Truth.{and_first, and_second}
use Rattle.lists.proofs.With.{has-with_new, has-with_old, has-with_cases}
use Rattle.lists.specs.Sets.{is_rising, has, with, is_subset}
use Rattle.promotions.specs.declared.near.Lack.{Lack}
use Rattle.promotions.specs.declared.near.Lack.TheVariants.{Nothing, One, More}
use Rattle.promotions.specs.Nearness.{one_more, lack_from, makes_up}

-- ---- a number is looked for in a rising list

-- a number above all of a list is not in it
pub has_low : (xs : List ℕ) (n c : ℕ) → n ≤ c → ((k : ℕ) → k < length xs → get_or xs k 0 < n) → has xs c ≡ false
has_low xs n c le below = has_none xs c (λ k lt e. let under : get_or xs k 0 < n = below k lt in absurd (omega arith))

-- what stands before a place is below n
pub has_behind : (xs : List ℕ) (n place : ℕ) → place ≤ length xs → ((k : ℕ) → k < place → get_or xs k 0 < n) → (c : ℕ) → n ≤ c → has (drop place xs) c ≡ has xs c
has_behind xs n zero at below c le = refl
has_behind [] n (suc place) at below c le = refl
has_behind (x ∷ xs) n (suc place) at below c le =
    let under : x < n = below 0 (omega arith) in
    let apart : nat_eq x c ≡ false = grind (arith, nat_tests) in
    rw apart (has_behind xs n place (omega arith) (λ k lt. below (suc k) (omega arith)) c le)

-- of a rising list that begins at n or above, n can only be the first
pub has_first : (xs : List ℕ) (n : ℕ) → is_rising xs ≡ true → 0 < length xs → n ≤ get_or xs 0 0 → has xs n ≡ nat_eq (get_or xs 0 0) n
has_first [] n r lt le = absurd (omega arith)
has_first (x ∷ xs) n r lt le =
    let behind : has xs n ≡ false = has_none xs n (λ k at e. let up : x < get_or xs k 0 = below_all x xs (and_first _ _ r) k at in absurd (omega arith)) in
    ap (λ b. nat_eq x n || b) behind ∙ or-false (nat_eq x n)

get_or_drop : (xs : List ℕ) (place : ℕ) → get_or (drop place xs) 0 0 ≡ get_or xs place 0
get_or_drop xs zero = refl
get_or_drop [] (suc place) = refl
get_or_drop (x ∷ xs) (suc place) = get_or_drop xs place

drop_some : (xs : List ℕ) (place : ℕ) → place < length xs → 0 < length (drop place xs)
drop_some xs zero lt = lt
drop_some [] (suc place) lt = absurd (omega arith)
drop_some (x ∷ xs) (suc place) lt = drop_some xs place (omega arith)

pub found_first : (xs rest : List ℕ) (n place : ℕ) → is_rising xs ≡ true → place < length xs → n ≤ get_or xs place 0 → ((k : ℕ) → k < place → get_or xs k 0 < n) → rest ≡ drop place xs
    → nat_eq (get_or rest 0 0) n ≡ has xs n
found_first xs rest n place r lt le below e =
    let low : n ≤ get_or (drop place xs) 0 0 = rw (get_or_drop xs place) le in
    ap (λ (ys : List ℕ). nat_eq (get_or ys 0 0) n) e
    ∙ sym (has_first (drop place xs) n (is_rising-drop xs place r) (drop_some xs place lt) low)
    ∙ has_behind xs n place (omega arith) below n (omega arith)

-- ---- one step of the walk

pub lack_more : (set part : List ℕ) → lack_from set More part ≡ More
lack_more set [] = refl
lack_more set (c ∷ part) = elim (has set c) as (λ b. lack_from set (cond b More More) part ≡ More) [ true ↦ lack_more set part | false ↦ lack_more set part ]

lack_same : (rest from : List ℕ) (n : ℕ) (lack : Lack) (part : List ℕ) → list_all (λ y. nat_lt n y) part ≡ true → ((c : ℕ) → n ≤ c → has from c ≡ has rest c) → lack_from rest lack part ≡ lack_from from lack part
lack_same rest from n lack [] above same = refl
lack_same rest from n lack (c ∷ part) above same =
    let up : n < c = ltb-true n c (and_first _ _ above) in
    let here : has from c ≡ has rest c = same c (omega arith) in
    ap (λ b. lack_from rest (cond b lack (one_more lack c)) part) (sym here)
    ∙ lack_same rest from n (cond (has from c) lack (one_more lack c)) part (and_second (nat_lt n c) _ above) same

pub lack_step : (part rest from : List ℕ) (i : ℕ) (lack : Lack) → is_rising part ≡ true → i < length part → ((c : ℕ) → get_or part i 0 ≤ c → has from c ≡ has rest c)
    → lack_from rest lack (drop i part) ≡ lack_from from (cond (has rest (get_or part i 0)) lack (one_more lack (get_or part i 0))) (drop (suc i) part)
lack_step [] rest from i lack r lt same = absurd (omega arith)
lack_step (x ∷ part) rest from zero lack r lt same = lack_same rest from x (cond (has rest x) lack (one_more lack x)) part (and_first _ _ r) same
lack_step (x ∷ part) rest from (suc i) lack r lt same = lack_step part rest from i lack (and_second _ _ r) (omega arith) same

-- ---- what is lacking decides

has-with : (set : List ℕ) (r c : ℕ) → has (with set r) c ≡ (has set c || nat_eq r c)
has-with set r c =
    elim (has set c) as (λ b. has set c ≡ b → has (with set r) c ≡ (b || nat_eq r c)) [
      | true ↦ λ e. has-with_old set r c e
      | false ↦ λ e.
          elim (nat_eq r c) as (λ b. nat_eq r c ≡ b → has (with set r) c ≡ b) [
            | true ↦ λ same. subst (λ n. has (with set r) n ≡ true) (eqb-true r c same) (has-with_new set r)
            | false ↦ λ apart. false_from_ne_true _ (λ t. elim (has-with_cases set r c t) as (λ _. ⊥) [ inl same ↦ absurd (let one : nat_eq r c ≡ true = eq-eqb r c same in let z : true ≡ false = sym one ∙ apart in cc) | inr old ↦ absurd (let z : true ≡ false = sym old ∙ e in cc) ])
          ] refl
    ] refl

-- what is lacking stands before the rest
abbrev is_before : Lack → List ℕ → Bool
is_before Nothing part = true
is_before (One e) part = list_all (λ y. nat_lt e y) part
is_before More part = true

and_true : (a : Bool) → a ≡ (a && true)
and_true true = refl
and_true false = refl

and_assoc : (a b c : Bool) → ((a && b) && c) ≡ (a && (b && c))
and_assoc true b c = refl
and_assoc false b c = refl

same_turned : (a b : ℕ) → nat_eq a b ≡ nat_eq b a
same_turned a b = grind (arith, nat_tests)

lesser_apart : (e c r : ℕ) → e < c → false ≡ (nat_eq e r && nat_eq r c)
lesser_apart e c r lt =
    elim (nat_eq e r) as (λ b. nat_eq e r ≡ b → false ≡ (b && nat_eq r c)) [
      | true ↦ λ same. let at : e ≡ r = eqb-true e r same in grind (arith, nat_tests)
      | false ↦ λ _. refl
    ] refl

makes_up_more : (lack : Lack) (c r : ℕ) (part : List ℕ) → is_before lack (c ∷ part) ≡ true → makes_up (one_more lack c) r ≡ (makes_up lack r && nat_eq r c)
makes_up_more Nothing c r part h = same_turned c r
makes_up_more (One e) c r part h = lesser_apart e c r (ltb-true e c (and_first (nat_lt e c) (list_all (λ y. nat_lt e y) part) h))
makes_up_more More c r part h = refl

before_more : (lack : Lack) (c : ℕ) (part : List ℕ) → list_all (λ y. nat_lt c y) part ≡ true → is_before (one_more lack c) part ≡ true
before_more Nothing c part h = h
before_more (One e) c part h = refl
before_more More c part h = refl

before_rest : (lack : Lack) (c : ℕ) (part : List ℕ) → is_before lack (c ∷ part) ≡ true → is_before lack part ≡ true
before_rest Nothing c part h = refl
before_rest (One e) c part h = and_second (nat_lt e c) _ h
before_rest More c part h = refl

made_up : (set : List ℕ) (lack : Lack) (part : List ℕ) (r : ℕ) → is_rising part ≡ true → is_before lack part ≡ true → (makes_up lack r && is_subset part (with set r)) ≡ makes_up (lack_from set lack part) r
made_up set lack [] r rises h = sym (and_true (makes_up lack r))
made_up set lack (c ∷ part) r rises h =
    elim (has set c) as (λ b. has set c ≡ b → (makes_up lack r && (has (with set r) c && is_subset part (with set r))) ≡ makes_up (lack_from set (cond b lack (one_more lack c)) part) r) [
      | true ↦ λ e.
          let here : has (with set r) c ≡ true = has-with_old set r c e in
          ap (λ b. makes_up lack r && (b && is_subset part (with set r))) here
          ∙ made_up set lack part r (and_second _ _ rises) (before_rest lack c part h)
      | false ↦ λ e.
          let here : has (with set r) c ≡ nat_eq r c = has-with set r c ∙ ap (λ b. b || nat_eq r c) e in
          ap (λ b. makes_up lack r && (b && is_subset part (with set r))) here
          ∙ sym (and_assoc (makes_up lack r) (nat_eq r c) (is_subset part (with set r)))
          ∙ ap (λ b. b && is_subset part (with set r)) (sym (makes_up_more lack c r part h))
          ∙ made_up set (one_more lack c) part r (and_second _ _ rises) (before_more lack c part (and_first _ _ rises))
    ] refl

pub subset_makes_up : (part set : List ℕ) (r : ℕ) → is_rising part ≡ true → is_subset part (with set r) ≡ makes_up (lack_from set Nothing part) r
subset_makes_up part set r rises = made_up set Nothing part r rises refl

-- one step of the walk, in the words of its loop
pub walked : (whole : Lack) (part rest from : List ℕ) (i : ℕ) (lack next : Lack) (found : Bool) → whole ≡ lack_from rest lack (drop i part) → is_rising part ≡ true → i < length part → found ≡ has rest (get_or part i 0)
    → ((c : ℕ) → get_or part i 0 ≤ c → has from c ≡ has rest c) → next ≡ cond found lack (one_more lack (get_or part i 0)) → whole ≡ lack_from from next (drop (i + 1) part)
walked whole part rest from i lack next found before rises lt e same after =
    let named : next ≡ cond (has rest (get_or part i 0)) lack (one_more lack (get_or part i 0)) = after ∙ ap (λ b. cond b lack (one_more lack (get_or part i 0))) e in
    rw (add-one i) (before ∙ lack_step part rest from i lack rises lt same ∙ sym (ap (λ l. lack_from from l (drop (suc i) part)) named))
