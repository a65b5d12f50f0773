-- Lists cut in two, and lists with one more at their end.
use Rattle.std.proofs.Common.{inl, inr, ◌≡◌, ◌⊎◌, ◌<◌, ◌≤◌, ◌+◌, ◌-◌, ℕ, suc, List, [], ◌∷◌, ◌++◌, length, get_or, take, drop, refl, ap, sym, ◌∙◌, arith, sub-one, add-one}
use Rattle.std.proofs.Math.Seq.{take-length, drop-cons}

-- where a list with one more at its end is cut, the cut is at that one or before it
pub cases_last : {X : Type 0} (xs : List X) (e : X) (before : List X) (x : X) (after : List X) → xs ++ e ∷ [] ≡ before ++ x ∷ after → ((before ≡ xs) × (x ≡ e)) ⊎ ((rest : List X) × (xs ≡ before ++ x ∷ rest))
cases_last [] e [] x after h = inl (refl, cc)
cases_last [] e (b ∷ []) x after h = absurd (cc)
cases_last [] e (b ∷ c ∷ bs) x after h = absurd (cc)
cases_last (y ∷ xs) e [] x after h = inr (xs, cc)
cases_last {X} (y ∷ xs) e (b ∷ bs) x after h =
    let tail : xs ++ e ∷ [] ≡ bs ++ x ∷ after = cc in
    let head : y ≡ b = cc in
    elim (cases_last xs e bs x after tail) as (λ _. ((b ∷ bs ≡ y ∷ xs) × (x ≡ e)) ⊎ ((rest : List X) × (y ∷ xs ≡ (b ∷ bs) ++ x ∷ rest))) [
      | inl same ↦ inl (cc (same.0, head), same.1)
      | inr more ↦ inr (more.0, cc (more.1, head))
    ]

pub not_cut : {X : Type 0} (before : List X) (x : X) (after : List X) → [] ≡ before ++ x ∷ after → ⊥
not_cut [] x after e = cc
not_cut (y ∷ before) x after e = cc

-- what is left of a list, behind its first element
abbrev pub rest_of : {A : Type 0} → List A → List A
rest_of xs = take (length xs - 1) (drop 1 xs)

pub first_and_rest : {A : Type 0} (xs : List A) (d : A) → 1 ≤ length xs → xs ≡ get_or xs 0 d ∷ rest_of xs
first_and_rest [] d h = absurd (omega arith)
first_and_rest (x ∷ xs) d h = ap (λ ys. x ∷ ys) (sym (rw sub-one (take-length xs)))

-- a list from a place on
pub drop_at : {X : Type 0} (xs : List X) (i : ℕ) (x : X) → i < length xs → x ≡ get_or xs i x → drop i xs ≡ x ∷ drop (i + 1) xs
drop_at xs i x lt e = rw add-one (drop-cons xs i x lt ∙ ap (λ y. y ∷ drop (suc i) xs) (sym e))
