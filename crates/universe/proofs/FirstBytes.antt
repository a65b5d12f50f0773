-- The first place of a byte, by whether there is one.
use Rattle.std.proofs.Common.{◌≡◌, ℕ, ◌==◌, List, Option, Some, None, arith, sym, get_or}
use Rattle.std.proofs.lemmas.Bool.{false_from_ne_true}
use Rattle.std.specs.List.{position}
use Rattle.bstr.specs.Find.{IsFirstByte, is_byte}
use Rattle.laws_universe.proofs.Places.{position-some}
use Rattle.universe.proofs.Walks.{position-none}

pub first-byte : (mark : ℕ) (text : List ℕ) (r : Option ℕ) → IsFirstByte (is_byte mark) text r → r ≡ position (λ byte. byte == mark) text
first-byte mark text None nowhere =
    sym (position-none (λ byte. byte == mark) text 0 (λ k less. false_from_ne_true (get_or text k 0 == mark) (λ e. nowhere k (omega arith) less e)))
first-byte mark text (Some k) found =
    sym (position-some (λ byte. byte == mark) text k 0 found.0.high
    (λ j less. false_from_ne_true (get_or text j 0 == mark) (λ e. found.0.before j (omega arith) less e)) found.1)
