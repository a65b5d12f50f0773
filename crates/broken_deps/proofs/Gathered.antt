-- Candidates that are gathered one after another, looked at and sorted.
use Rattle.std.proofs.Common.{◌≡◌, ◌<◌, ◌+◌, ℕ, List, [], ◌∷◌, ◌++◌, Bool, true, false, cond, ◌&&◌, length, get_or, take, refl, ap, sym, ◌∙◌, nat_lt, append_assoc, append-nil}
use Rattle.std.specs.List.{filter, flat_map}
use Rattle.std.specs.Cmp.{both_ways}
use Rattle.std.proofs.lemmas.Bool.{and_from, and_parts, lt-ltb, ltb-true}
use Rattle.std.proofs.lemmas.List.{take_more}
use Rattle.std.proofs.lemmas.Grind.{flat_map-append}
use Rattle.lists.proofs.Below.{has-below, is_rising-below}
use Rattle.lists.proofs.Sets.{has-filter, is_rising-filter, rising_same}
use Rattle.lists.specs.Below.{below}
use Rattle.lists.specs.Sets.{has, is_rising}

pub filter-join : (f : ℕ → Bool) (xs ys : List ℕ) → filter f (xs ++ ys) ≡ filter f xs ++ filter f ys
filter-join f [] ys = refl
filter-join f (x ∷ xs) ys =
    elim (f x) as (λ b. cond b (x ∷ filter f (xs ++ ys)) (filter f (xs ++ ys)) ≡ cond b (x ∷ filter f xs) (filter f xs) ++ filter f ys) [ true ↦ ap (λ zs. x ∷ zs) (filter-join f xs ys) | false ↦ filter-join f xs ys ]

-- the candidates of one choice more
pub gathered_more : (f : ℕ → Bool) (g : ℕ → List ℕ) (first choices list more : List ℕ) (i c : ℕ) → i < length choices → c ≡ get_or choices i c
    → list ≡ filter f (first ++ flat_map g (take i choices)) → more ≡ list ++ filter f (g c) → more ≡ filter f (first ++ flat_map g (take (i + 1) choices))
gathered_more f g first choices list more i c lt own h e =
    let next : take (i + 1) choices ≡ take i choices ++ c ∷ [] = take_more choices i c lt ∙ ap (λ n. take i choices ++ n ∷ []) (sym own) in
    let one : flat_map g (c ∷ []) ≡ g c = append-nil (g c) in
    let all : flat_map g (take (i + 1) choices) ≡ flat_map g (take i choices) ++ g c = ap (flat_map g) next ∙ flat_map-append g (take i choices) (c ∷ []) ∙ ap (λ xs. flat_map g (take i choices) ++ xs) one in
    let joined : first ++ flat_map g (take (i + 1) choices) ≡ (first ++ flat_map g (take i choices)) ++ g c = ap (λ xs. first ++ xs) all ∙ sym (append_assoc first (flat_map g (take i choices)) (g c)) in
    e ∙ ap (λ xs. xs ++ filter f (g c)) h ∙ sym (filter-join f (first ++ flat_map g (take i choices)) (g c)) ∙ ap (filter f) (sym joined)

-- Of what passes one test, two others that agree there keep the same.
pub filter_within : (f g h : ℕ → Bool) → ((x : ℕ) → f x ≡ true → g x ≡ h x) → (xs : List ℕ) → filter g (filter f xs) ≡ filter h (filter f xs)
filter_within f g h e [] = refl
filter_within f g h e (x ∷ xs) =
    elim (f x) as (λ b. f x ≡ b → filter g (cond b (x ∷ filter f xs) (filter f xs)) ≡ filter h (cond b (x ∷ filter f xs) (filter f xs))) [
      | true ↦ λ t. ap (λ b. cond b (x ∷ filter g (filter f xs)) (filter g (filter f xs))) (e x t) ∙ ap (λ ys. cond (h x) (x ∷ ys) ys) (filter_within f g h e xs)
      | false ↦ λ _. filter_within f g h e xs
    ] refl

-- A rising list that has the members of those candidates that pass is the list of all numbers that pass, where these are
-- among the candidates.
pub sorted_same : (f : ℕ → Bool) (n : ℕ) (candidates list now : List ℕ) → list ≡ filter f candidates → is_rising now ≡ true → ((d : ℕ) → has now d ≡ has list d)
    → ((d : ℕ) → has candidates d ≡ true → d < n) → ((d : ℕ) → f d ≡ true → d < n → has candidates d ≡ true) → now ≡ filter f (below n)
sorted_same f n candidates list now e r same range found =
    rising_same now (filter f (below n)) r (is_rising-filter f (below n) (is_rising-below n)) (λ d.
    same d ∙ ap (λ xs. has xs d) e ∙ has-filter f candidates d
    ∙ both_ways (f d && has candidates d) (f d && nat_lt d n)
    (λ h. let parts = and_parts (f d) (has candidates d) h in and_from (f d) _ parts.0 (lt-ltb d n (range d parts.1)))
    (λ h. let parts = and_parts (f d) (nat_lt d n) h in and_from (f d) _ parts.0 (found d parts.0 (ltb-true d n parts.1)))
    ∙ sym (has-filter f (below n) d ∙ ap (λ b. f d && b) (has-below n d)))
