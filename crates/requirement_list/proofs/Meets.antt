-- Which versions and packages an item is met by, in the words of their numbers.
use Rattle.std.proofs.Common.{inl, inr, ◌≡◌, ◌<◌, ◌≤◌, ℕ, zero, suc, List, [], ◌∷◌, Bool, true, false, ◌&&◌, not, length, refl, arith, nat_eq, get_or}
use Rattle.std.specs.List.{list_any}
use Rattle.std.proofs.lemmas.Bool.{or_cases}
use Rattle.std.proofs.Math.Bool.{or-true}
use Rattle.universe_model.specs.Versions.{Version, is_of}
use Rattle.requirement_list.specs.Settings.{owners_of}
use Rattle.requirement_list.proofs.Numbers.{passes}

-- ---- members

-- ---- those that pass

pub passes_any : {A : Type 0} (t : A → Bool) (xs : List A) → list_any t xs ≡ true → (n : ℕ) × (passes t xs n ≡ true)
passes_any t [] h = absurd (cc)
passes_any t (x ∷ xs) h =
    elim (or_cases (t x) (list_any t xs) h) [
      | inl e ↦ (0, e)
      | inr there ↦ let rest = passes_any t xs there in (suc rest.0, rest.1)
    ]

pub any_passes : {A : Type 0} (t : A → Bool) (xs : List A) (n : ℕ) → passes t xs n ≡ true → list_any t xs ≡ true
any_passes t [] n h = absurd (cc)
any_passes t (x ∷ xs) zero h = rw h refl
any_passes t (x ∷ xs) (suc n) h = rw (any_passes t xs n h) (or-true (t x))

pub passes_both : {A : Type 0} (a b : A → Bool) (xs : List A) (n : ℕ) → passes (λ x. a x && b x) xs n ≡ (passes a xs n && passes b xs n)
passes_both a b [] n = refl
passes_both a b (x ∷ xs) zero = refl
passes_both a b (x ∷ xs) (suc n) = passes_both a b xs n

pub passes_not : {A : Type 0} (a : A → Bool) (xs : List A) (n : ℕ) → n < length xs → passes (λ x. not (a x)) xs n ≡ not (passes a xs n)
passes_not a [] n lt = absurd (omega arith)
passes_not a (x ∷ xs) zero lt = refl
passes_not a (x ∷ xs) (suc n) lt = passes_not a xs n (omega arith)

pub passes_past : {A : Type 0} (a : A → Bool) (xs : List A) (n : ℕ) → length xs ≤ n → passes a xs n ≡ false
passes_past a [] n le = refl
passes_past a (x ∷ xs) zero le = absurd (omega arith)
passes_past a (x ∷ xs) (suc n) le = passes_past a xs n (omega arith)

pub passes_owner : (q : ℕ) (vs : List Version) (n : ℕ) → n < length vs → passes (is_of q) vs n ≡ nat_eq (get_or (owners_of vs) n 0) q
passes_owner q [] n lt = absurd (omega arith)
passes_owner q (v ∷ vs) zero lt = refl
passes_owner q (v ∷ vs) (suc n) lt = passes_owner q vs n (omega arith)

-- what passes is there
pub passes_there : {A : Type 0} (a : A → Bool) (xs : List A) (n : ℕ) → passes a xs n ≡ true → n < length xs
passes_there a [] n h = absurd (cc)
passes_there a (x ∷ xs) zero h = omega arith
passes_there a (x ∷ xs) (suc n) h = omega (arith, passes_there a xs n h)
