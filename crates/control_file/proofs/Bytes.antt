-- Bytes of one line: its first colon, and spaces at its ends.
use Rattle.std.proofs.Common.{◌≡◌, ℕ, zero, suc, ◌<◌, Bool, false, sym, ◌∙◌, arith, eqb}
use Rattle.std.proofs.lemmas.Bool.{false≢true}
pub use Rattle.lists.proofs.Tests.{position_some, position_none}

pub some_length : (n : ℕ) (b : Bool) → b ≡ eqb n 0 → b ≡ false → 0 < n
some_length zero b e f = absurd (false≢true (sym f ∙ e))
some_length (suc n) b e f = omega arith
