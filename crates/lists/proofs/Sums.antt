-- Sums, counts and greatest numbers of lists.
use Rattle.std.proofs.Common.{inl, inr, ◌≡◌, ◌<◌, ◌≤◌, max, ℕ, List, [], ◌∷◌, Bool, true, false, cond, length, ap, ◌∙◌, refl, arith, nat_eq}
use Rattle.std.specs.List.{filter, fold}
use Rattle.std.proofs.lemmas.Bool.{or_cases, eqb-true}
use Rattle.lists.specs.Sets.{has}

pub fold-max : (a : ℕ) (xs : List ℕ) → fold max a xs ≡ max a (fold max 0 xs)
fold-max a [] = omega arith
fold-max a (x ∷ xs) = omega (arith, fold-max (max a x) xs, fold-max (max 0 x) xs)

-- a stricter test passes no more, and fewer if one member fails it
pub length-filter_stricter : (f g : ℕ → Bool) (xs : List ℕ) → ((x : ℕ) → g x ≡ true → f x ≡ true) → length (filter g xs) ≤ length (filter f xs)
length-filter_stricter f g [] h = omega arith
length-filter_stricter f g (x ∷ xs) h =
    let more = length-filter_stricter f g xs h in
    elim (g x) as (λ r. g x ≡ r → length (cond r (x ∷ filter g xs) (filter g xs)) ≤ length (filter f (x ∷ xs))) [
      | true ↦ λ t. let u : f x ≡ true = h x t in rw u (omega (arith, more))
      | false ↦ λ _. elim (f x) as (λ r. length (filter g xs) ≤ length (cond r (x ∷ filter f xs) (filter f xs))) [ true ↦ omega (arith, more) | false ↦ more ]
    ] refl

pub length-filter_fewer : (f g : ℕ → Bool) (xs : List ℕ) (c : ℕ) → ((x : ℕ) → g x ≡ true → f x ≡ true) → has xs c ≡ true → f c ≡ true → g c ≡ false → length (filter g xs) < length (filter f xs)
length-filter_fewer f g [] c h m t u = absurd (cc)
length-filter_fewer f g (x ∷ xs) c h m t u =
    elim (or_cases (nat_eq x c) (has xs c) m) as (λ _. length (filter g (x ∷ xs)) < length (filter f (x ∷ xs))) [
      | inl same ↦
          let e : x ≡ c = eqb-true x c same in
          let gx : g x ≡ false = ap g e ∙ u in
          let fx : f x ≡ true = ap f e ∙ t in
          let more = length-filter_stricter f g xs h in
          rw (gx, fx) (omega (arith, more))
      | inr there ↦
          let more = length-filter_fewer f g xs c h there t u in
          elim (g x) as (λ r. g x ≡ r → length (cond r (x ∷ filter g xs) (filter g xs)) < length (filter f (x ∷ xs))) [
            | true ↦ λ k. let fx : f x ≡ true = h x k in rw fx (omega (arith, more))
            | false ↦ λ _. elim (f x) as (λ r. length (filter g xs) < length (cond r (x ∷ filter f xs) (filter f xs))) [ true ↦ omega (arith, more) | false ↦ more ]
          ] refl
    ]
