-- What a cost becomes when one more choice comes in.
use Rattle.std.proofs.Common.{◌≡◌, ◌<◌, ◌≤◌, ◌+◌, ◌*◌, ◌^◌, ◌-◌, max, zero, suc, ℕ, Bool, true, false, cond, List, [], ◌∷◌, ◌++◌, length, take, drop, get_or, get_or-drop, map, refl, subst, sym, arith, nat_lt, nat_eq}
use Rattle.std.specs.List.{sum_by, fold, list_all}
use Rattle.std.proofs.lemmas.Bool.{or_parts, and_from, lt-ltb}
use Rattle.std.proofs.lemmas.Bool.Decides.{nat_tests}
use Rattle.std.proofs.lemmas.List.Sums.{sum_by-cons}
use Rattle.std.specs.declared.cmp.Ordering.{Ordering}
use Rattle.std.specs.declared.cmp.Ordering.TheVariants.{Less}
use Rattle.std.specs.Ordering.{nat_cmp, ordering_then}
use Rattle.resolver_model.specs.Costs.{Level, Table, amount, level_cost, cost, cost_cmp}
use Rattle.cost_vector.specs.Additions.{part_with, parts_with, cost_with, fits}
use Rattle.cost_vector.specs.Rows.{levels_of}
use Rattle.std.proofs.Math.Nat.{suc-mul}
use Rattle.lists.proofs.Sets.{length-rising}
use Rattle.lists.proofs.Sums.{fold-max}
use Rattle.lists.proofs.With.{is_rising-with, list_all-with}
use Rattle.lists.specs.Sets.{has, with, is_rising}

-- c is no member
pub length-with : (xs : List ℕ) (c : ℕ) → has xs c ≡ false → length (with xs c) ≡ length xs + 1
length-with [] c h = refl
length-with (x ∷ xs) c h =
    let no = or_parts (nat_eq x c) (has xs c) h in
    elim (nat_lt x c) as (λ r. length (cond r (x ∷ with xs c) (cond (nat_eq x c) (x ∷ xs) (c ∷ x ∷ xs))) ≡ length (x ∷ xs) + 1) [
      | true ↦ omega (arith, length-with xs c no.1)
      | false ↦ rw no.0 (omega arith)
    ]

pub sum_by-with : (f : ℕ → ℕ) (xs : List ℕ) (c : ℕ) → has xs c ≡ false → sum_by f (with xs c) ≡ sum_by f xs + f c
sum_by-with f [] c h = omega (arith, sum_by-cons f c [])
sum_by-with f (x ∷ xs) c h =
    let no = or_parts (nat_eq x c) (has xs c) h in
    elim (nat_lt x c) as (λ r. sum_by f (cond r (x ∷ with xs c) (cond (nat_eq x c) (x ∷ xs) (c ∷ x ∷ xs))) ≡ sum_by f (x ∷ xs) + f c) [
      | true ↦ omega (arith, sum_by-with f xs c no.1, sum_by-cons f x (with xs c), sum_by-cons f x xs)
      | false ↦ rw no.0 (omega (arith, sum_by-cons f c (x ∷ xs)))
    ]

pub greatest-with : (f : ℕ → ℕ) (a : ℕ) (xs : List ℕ) (c : ℕ) → has xs c ≡ false → fold max a (map f (with xs c)) ≡ max (fold max a (map f xs)) (f c)
greatest-with f a [] c h = refl
greatest-with f a (x ∷ xs) c h =
    let no = or_parts (nat_eq x c) (has xs c) h in
    elim (nat_lt x c) as (λ r. fold max a (map f (cond r (x ∷ with xs c) (cond (nat_eq x c) (x ∷ xs) (c ∷ x ∷ xs)))) ≡ max (fold max a (map f (x ∷ xs))) (f c)) [
      | true ↦ greatest-with f (max a (f x)) xs c no.1
      | false ↦ rw no.0 (omega (arith, fold-max (max (max a (f c)) (f x)) (map f xs), fold-max (max a (f x)) (map f xs)))
    ]

pub level_cost-with : (level : Level) (set : List ℕ) (c : ℕ) → has set c ≡ false → part_with level (level_cost level set) c ≡ level_cost level (with set c)
level_cost-with level set c h =
    let sum = sum_by-with (amount level) set c h in
    let greatest = greatest-with (amount level) 0 set c h in
    elim level.greatest as (λ r. cond r (max (cond r (fold max 0 (map (amount level) set)) (sum_by (amount level) set)) (amount level c)) (cond r (fold max 0 (map (amount level) set)) (sum_by (amount level) set) + amount level c) ≡ cond r (fold max 0 (map (amount level) (with set c))) (sum_by (amount level) (with set c))) [
      | true ↦ sym greatest
      | false ↦ sym sum
    ]

-- the parts of a set's cost, with one more choice, are those of the set with it
pub parts_with-cost : (levels : List Level) (set : List ℕ) (c : ℕ) → has set c ≡ false → parts_with levels (map (λ level. level_cost level set) levels ++ length set ∷ []) c ≡ map (λ level. level_cost level (with set c)) levels ++ length (with set c) ∷ []
parts_with-cost [] set c h = rw (length-with set c h) refl
parts_with-cost (level ∷ levels) set c h =
    cc (level_cost-with level set c h, parts_with-cost levels set c h)

pub cost_with-cost : (table : Table) (set : List ℕ) (c : ℕ) → has set c ≡ false → cost_with table (cost table set) c ≡ cost table (with set c)
cost_with-cost table set c h = parts_with-cost table.levels set c h

part_with-le : (level : Level) (part c : ℕ) → part ≤ part_with level part c
part_with-le level part c =
    elim level.greatest as (λ r. part ≤ cond r (max part (amount level c)) (part + amount level c)) [ true ↦ omega arith | false ↦ omega arith ]

-- no part becomes less, and the count of choices becomes greater
pub parts_with-greater : (levels : List Level) (parts : List ℕ) (c : ℕ) → length parts ≡ length levels + 1 → cost_cmp parts (parts_with levels parts c) ≡ Less
parts_with-greater [] [] c e = absurd (omega arith)
parts_with-greater [] (part ∷ parts) c e = rw (lt-ltb part (part + 1) (omega arith)) refl
parts_with-greater (level ∷ levels) [] c e = absurd (omega arith)
parts_with-greater (level ∷ levels) (part ∷ parts) c e =
    let more : cost_cmp parts (parts_with levels parts c) ≡ Less = parts_with-greater levels parts c (omega arith) in
    let up : part ≤ part_with level part c = part_with-le level part c in
    first part (part_with level part c) up more
  where
    first : (m n : ℕ) {o : Ordering} → m ≤ n → o ≡ Less → ordering_then (nat_cmp m n) o ≡ Less
    first m n up more = grind (arith, nat_tests)

-- Amounts of 32 bits make no part of a cost too large for 64 bits.
abbrev pub AllWithin : ℕ → List ℕ → Type 0
AllWithin most amounts = (i : ℕ) → get_or amounts i 0 ≤ most

fold_max-le : (most a : ℕ) (f : ℕ → ℕ) (xs : List ℕ) → a ≤ most → ((x : ℕ) → f x ≤ most) → fold max a (map f xs) ≤ most
fold_max-le most a f [] h k = h
fold_max-le most a f (x ∷ xs) h k = let here : f x ≤ most = k x in fold_max-le most (max a (f x)) f xs (omega arith) k

sum_by-all-le : (f : ℕ → ℕ) (most : ℕ) (xs : List ℕ) → ((x : ℕ) → f x ≤ most) → sum_by f xs ≤ length xs * most
sum_by-all-le f most [] k = omega arith
sum_by-all-le f most (x ∷ xs) k =
    let here : f x ≤ most = k x in
    let more : sum_by f xs ≤ length xs * most = sum_by-all-le f most xs k in
    omega (arith, sum_by-cons f x xs, suc-mul (length xs) most)

pub level_cost-le : (level : Level) (set : List ℕ) → AllWithin (2 ^ 32 - 1) level.amounts → length set ≤ 2 ^ 32 → level_cost level set < 2 ^ 64
level_cost-le level set small few =
    let sum : sum_by (amount level) set ≤ length set * (2 ^ 32 - 1) = sum_by-all-le (amount level) (2 ^ 32 - 1) set (λ x. small x) in
    let greatest : fold max 0 (map (amount level) set) ≤ 2 ^ 32 - 1 = fold_max-le (2 ^ 32 - 1) 0 (amount level) set (omega arith) (λ x. small x) in
    elim level.greatest as (λ r. cond r (fold max 0 (map (amount level) set)) (sum_by (amount level) set) < 2 ^ 64) [ true ↦ omega arith | false ↦ omega arith ]

pub fits-levels_of : (n : ℕ) (kinds : List Bool) (amounts set : List ℕ) → AllWithin (2 ^ 32 - 1) amounts → length set ≤ 2 ^ 32
    → fits (map (λ level. level_cost level set) (levels_of n kinds amounts) ++ length set ∷ []) ≡ true
fits-levels_of n [] amounts set small few = and_from (nat_lt (length set) (2 ^ 64)) true (lt-ltb (length set) (2 ^ 64) (omega arith)) refl
fits-levels_of n (kind ∷ kinds) amounts set small few =
    let row : AllWithin (2 ^ 32 - 1) (take n amounts) = λ i. within_take n amounts small i in
    let rest : AllWithin (2 ^ 32 - 1) (drop n amounts) = λ i. rw (get_or-drop n amounts i 0) (small (n + i)) in
    let here = level_cost-le (record { greatest = kind; amounts = take n amounts }) set row few in
    and_from _ _ (lt-ltb (level_cost (record { greatest = kind; amounts = take n amounts }) set) (2 ^ 64) here) (fits-levels_of n kinds (drop n amounts) set rest few)
  where
    within_take : (n : ℕ) (xs : List ℕ) → AllWithin (2 ^ 32 - 1) xs → (i : ℕ) → get_or (take n xs) i 0 ≤ 2 ^ 32 - 1
    within_take zero xs small i = omega arith
    within_take (suc n) [] small i = omega arith
    within_take (suc n) (x ∷ xs) small zero = small 0
    within_take (suc n) (x ∷ xs) small (suc i) = within_take n xs (λ j. small (suc j)) i

pub fits-cost : (n : ℕ) (kinds : List Bool) (amounts : List ℕ) (table : Table) → record { choices = n; levels = levels_of n kinds amounts } ≡ table → n < 2 ^ 32
    → ((i : ℕ) → get_or amounts i 0 < 2 ^ 32) → (set : List ℕ) → is_rising set ≡ true → list_all (λ c. nat_lt c table.choices) set ≡ true → fits (cost table set) ≡ true
fits-cost n kinds amounts table e few small set rises below =
    let P : Table → Type 0 = λ t. list_all (λ c. nat_lt c t.choices) set ≡ true → fits (cost t set) ≡ true in
    let here : P (record { choices = n; levels = levels_of n kinds amounts }) =
    λ b. fits-levels_of n kinds amounts set (λ i. let s : get_or amounts i 0 < 2 ^ 32 = small i in omega arith) (let most : length set ≤ n = length-rising n set rises b in omega arith) in
    subst P e here below

-- the same with one more choice
pub fits-cost_with : (table : Table) → ((set : List ℕ) → is_rising set ≡ true → list_all (λ c. nat_lt c table.choices) set ≡ true → fits (cost table set) ≡ true)
    → (set : List ℕ) (c : ℕ) → is_rising set ≡ true → list_all (λ x. nat_lt x table.choices) set ≡ true → c < table.choices → has set c ≡ false → fits (cost_with table (cost table set) c) ≡ true
fits-cost_with table all set c rises below lt apart =
    rw (cost_with-cost table set c apart) (all (with set c) (is_rising-with set c rises) (list_all-with (λ x. nat_lt x table.choices) set c below (lt-ltb c table.choices lt)))
