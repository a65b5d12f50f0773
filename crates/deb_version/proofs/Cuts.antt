-- What stands before and behind the last byte that passes, searched from the end.
use Rattle.std.proofs.Common.{◌≡◌, ℕ, List, Bool, true, false, not, Option, Some, None, is_some, reverse, sym, ◌∙◌, position}
use Rattle.std.specs.List.{list_any, suffix_len}
use Rattle.lists.proofs.Tests.{position_some, position_none, list_any-reverse}

pub last_some : (p : ℕ → Bool) (xs : List ℕ) (i : ℕ) → Some i ≡ position p (reverse xs) → (list_any p xs ≡ true) × (i ≡ suffix_len (λ x. not (p x)) xs)
last_some p xs i e =
    let at = position_some p (reverse xs) i e in
    (sym (list_any-reverse p xs) ∙ at.0, at.1)

pub last_none : (p : ℕ → Bool) (xs : List ℕ) → None ≡ position p (reverse xs) → list_any p xs ≡ false
last_none p xs e = sym (list_any-reverse p xs) ∙ position_none p (reverse xs) e

-- a place was found exactly where some byte passes
pub found : (p : ℕ → Bool) (xs : List ℕ) (place : Option ℕ) → place ≡ position p xs → is_some place ≡ list_any p xs
found p xs None e = sym (position_none p xs e)
found p xs (Some i) e = sym (position_some p xs i e).0

pub found_last : (p : ℕ → Bool) (xs : List ℕ) (place : Option ℕ) → place ≡ position p (reverse xs) → is_some place ≡ list_any p xs
found_last p xs place e = found p (reverse xs) place e ∙ list_any-reverse p xs
