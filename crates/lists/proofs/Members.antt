-- Membership, by recursion over the list.
use Rattle.std.proofs.Common.{inl, inr, ◌≡◌, ◌⊎◌, ◌<◌, ℕ, zero, suc, List, [], ◌∷◌, ◌++◌, Bool, true, false, cond, length, get_or, refl, ap, sym, subst, ◌∙◌, map, arith}
use Rattle.std.specs.List.{filter, flat_map, list_all, list_any}
use Rattle.std.proofs.lemmas.Bool.{and_from, and_parts, and_cases, or_cases, or_left, or_right, or_parts}
pub use Rattle.lists.specs.Members.{Member}

pub Member-append_left : {X : Type 0} (x : X) (xs ys : List X) → Member x xs → Member x (xs ++ ys)
Member-append_left x [] ys h = absurd h
Member-append_left x (y ∷ xs) ys h = elim h [ inl e ↦ inl e | inr m ↦ inr (Member-append_left x xs ys m) ]

pub Member-append_right : {X : Type 0} (x : X) (xs ys : List X) → Member x ys → Member x (xs ++ ys)
Member-append_right x [] ys h = h
Member-append_right x (y ∷ xs) ys h = inr (Member-append_right x xs ys h)

pub Member-map : {X Y : Type 0} (f : X → Y) (x : X) (xs : List X) → Member x xs → Member (f x) (map f xs)
Member-map f x [] h = absurd h
Member-map f x (y ∷ xs) h = elim h [ inl e ↦ inl (ap f e) | inr m ↦ inr (Member-map f x xs m) ]

pub Member-filter : {X : Type 0} (p : X → Bool) (x : X) (xs : List X) → p x ≡ true → Member x xs → Member x (filter p xs)
Member-filter p x [] t h = absurd h
Member-filter {X} p x (y ∷ xs) t h =
    elim h as (λ _. Member x (cond (p y) (y ∷ filter p xs) (filter p xs))) [
      | inl e ↦ let py : p y ≡ true = rw (← e) t in rw py (inl e)
      | inr m ↦
          elim (p y) as (λ r. Member x (cond r (y ∷ filter p xs) (filter p xs))) [
            | true ↦ inr (Member-filter p x xs t m)
            | false ↦ Member-filter p x xs t m
          ]
    ]

-- what a filter keeps passes its test
pub Member-filter_passes : {X : Type 0} (p : X → Bool) (x : X) (xs : List X) → Member x (filter p xs) → p x ≡ true
Member-filter_passes p x [] h = absurd h
Member-filter_passes {X} p x (y ∷ xs) h =
    let goal : (r : Bool) → p y ≡ r → Member x (cond r (y ∷ filter p xs) (filter p xs)) → p x ≡ true =
    λ r. elim r as (λ r. p y ≡ r → Member x (cond r (y ∷ filter p xs) (filter p xs)) → p x ≡ true) [
      | true ↦ λ t m. elim m as (λ _. p x ≡ true) [ inl e ↦ rw e t | inr k ↦ Member-filter_passes p x xs k ]
      | false ↦ λ _ m. Member-filter_passes p x xs m
    ] in
    goal (p y) refl h

pub Member-append_cases : {X : Type 0} (x : X) (xs ys : List X) → Member x (xs ++ ys) → Member x xs ⊎ Member x ys
Member-append_cases x [] ys m = inr m
Member-append_cases x (y ∷ xs) ys m =
    elim m as (λ _. Member x (y ∷ xs) ⊎ Member x ys) [
      | inl e ↦ inl (inl e)
      | inr k ↦ elim (Member-append_cases x xs ys k) as (λ _. Member x (y ∷ xs) ⊎ Member x ys) [ inl l ↦ inl (inr l) | inr r ↦ inr r ]
    ]

-- a member that stands at a place
pub Member-any : {X : Type 0} (xs : List X) (k : ℕ) (x : X) → k < length xs → get_or xs k x ≡ x → Member x xs
Member-any [] k x lt e = absurd (omega arith)
Member-any (y ∷ xs) zero x lt e = inl (sym e)
Member-any (y ∷ xs) (suc k) x lt e = inr (Member-any xs k x (omega arith) e)

pub Member-flat_map : {X Y : Type 0} (f : X → List Y) (xs : List X) (x : X) (y : Y) → Member x xs → Member y (f x) → Member y (flat_map f xs)
Member-flat_map f [] x y m k = absurd m
Member-flat_map {X} {Y} f (z ∷ xs) x y m k =
    elim m as (λ _. Member y (flat_map f (z ∷ xs))) [
      | inl e ↦ let P : X → Type 0 = λ w. Member y (f w) in Member-append_left y (f z) (flat_map f xs) (subst P e k)
      | inr n ↦ Member-append_right y (f z) (flat_map f xs) (Member-flat_map f xs x y n k)
    ]

-- where a member of a flat map comes from
pub Member-flat_map_from : {X Y : Type 0} (f : X → List Y) (xs : List X) (y : Y) → Member y (flat_map f xs) → (x : X) × Member x xs × Member y (f x)
Member-flat_map_from f [] y m = absurd m
Member-flat_map_from {X} f (x ∷ xs) y m =
    elim (Member-append_cases y (f x) (flat_map f xs) m) as (λ _. (z : X) × Member z (x ∷ xs) × Member y (f z)) [
      | inl here ↦ (x, inl refl, here)
      | inr there ↦ let more = Member-flat_map_from f xs y there in (more.0, inr more.1, more.2)
    ]

-- ---- tests, by their members

pub list_all-Member : {X : Type 0} (f : X → Bool) (xs : List X) (x : X) → list_all f xs ≡ true → Member x xs → f x ≡ true
list_all-Member f [] x h m = absurd m
list_all-Member f (y ∷ xs) x h m =
    let parts = and_parts (f y) (list_all f xs) h in
    elim m as (λ _. f x ≡ true) [ inl e ↦ ap f e ∙ parts.0 | inr k ↦ list_all-Member f xs x parts.1 k ]

pub list_all-from_Member : {X : Type 0} (f : X → Bool) (xs : List X) → ((x : X) → Member x xs → f x ≡ true) → list_all f xs ≡ true
list_all-from_Member f [] h = refl
list_all-from_Member f (x ∷ xs) h = and_from (f x) _ (h x (inl refl)) (list_all-from_Member f xs (λ y m. h y (inr m)))

-- where not all pass, one fails
pub list_all-fails : {X : Type 0} (f : X → Bool) (xs : List X) → list_all f xs ≡ false → (x : X) × Member x xs × (f x ≡ false)
list_all-fails f [] h = absurd (cc)
list_all-fails {X} f (y ∷ xs) h =
    elim (and_cases (f y) (list_all f xs) h) as (λ _. (x : X) × Member x (y ∷ xs) × (f x ≡ false)) [
      | inl here ↦ (y, inl refl, here)
      | inr there ↦ let more = list_all-fails f xs there in (more.0, inr more.1, more.2)
    ]

pub list_any-Member : {X : Type 0} (f : X → Bool) (xs : List X) → list_any f xs ≡ true → (x : X) × Member x xs × (f x ≡ true)
list_any-Member f [] h = absurd (cc)
list_any-Member {X} f (y ∷ xs) h =
    elim (or_cases (f y) (list_any f xs) h) as (λ _. (x : X) × Member x (y ∷ xs) × (f x ≡ true)) [
      | inl here ↦ (y, inl refl, here)
      | inr there ↦ let more = list_any-Member f xs there in (more.0, inr more.1, more.2)
    ]

pub list_any-from_Member : {X : Type 0} (f : X → Bool) (xs : List X) (x : X) → Member x xs → f x ≡ true → list_any f xs ≡ true
list_any-from_Member f [] x m h = absurd m
list_any-from_Member f (y ∷ xs) x m h =
    elim m as (λ _. list_any f (y ∷ xs) ≡ true) [
      | inl e ↦ or_left (f y) _ (ap f (sym e) ∙ h)
      | inr k ↦ or_right (f y) _ (list_any-from_Member f xs x k h)
    ]

pub list_any-none : {X : Type 0} (f : X → Bool) (xs : List X) (x : X) → list_any f xs ≡ false → Member x xs → f x ≡ false
list_any-none f [] x h m = absurd m
list_any-none f (y ∷ xs) x h m =
    let parts = or_parts (f y) (list_any f xs) h in
    elim m as (λ _. f x ≡ false) [ inl e ↦ ap f e ∙ parts.0 | inr k ↦ list_any-none f xs x parts.1 k ]
