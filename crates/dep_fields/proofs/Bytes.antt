-- Blanks and the bytes of tokens.
use Rattle.std.proofs.Common.{◌≡◌, ℕ, Bool, true, false, refl, inl, inr}
use Rattle.std.proofs.lemmas.Bool.{cases_Bool}
use Rattle.ascii.proofs.Bytes.{other_byte}
pub use Rattle.ascii.proofs.Bytes.{other_byte as not-at}
use Rattle.dep_fields.specs.Tokens.{is_blank}

-- a byte that passes is no blank, where no blank passes
pub apart : (p : ℕ → Bool) → p 32 ≡ false → p 9 ≡ false → p 10 ≡ false → p 13 ≡ false → (b : ℕ) → p b ≡ true → is_blank b ≡ false
apart p s t n r b h = rw (other_byte p 32 s b h, other_byte p 9 t b h, other_byte p 10 n b h, other_byte p 13 r b h) refl

-- a blank does not pass, where none does
pub blank-out : (p : ℕ → Bool) → p 32 ≡ false → p 9 ≡ false → p 10 ≡ false → p 13 ≡ false → (b : ℕ) → is_blank b ≡ true → p b ≡ false
blank-out p s t n r b h = elim (cases_Bool (p b)) [
  | inl passes ↦ let clash : is_blank b ≡ false = apart p s t n r b passes in absurd (cc)
  | inr fails ↦ fails
]
