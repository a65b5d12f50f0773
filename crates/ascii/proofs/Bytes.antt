-- Tests on bytes.
use Rattle.std.proofs.Common.{◌≡◌, ℕ, Bool, true, false, ◌==◌, subst, inl, inr, eqb-true}
use Rattle.std.proofs.lemmas.Bool.{cases_Bool}

-- a byte that passes is not one that fails
pub other_byte : (p : ℕ → Bool) (n : ℕ) → p n ≡ false → (b : ℕ) → p b ≡ true → (b == n) ≡ false
other_byte p n out b h = elim (cases_Bool (b == n)) [
  | inl same ↦ let P : ℕ → Type 0 = λ m. p m ≡ true in let clash : p n ≡ true = subst P (eqb-true b n same) h in absurd (cc)
  | inr other ↦ other
]
