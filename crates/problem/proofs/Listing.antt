-- Lists by number: what it is to note one more dependency, and to take it off again.
use Rattle.std.proofs.Common.{◌≡◌, ◌-◌, ◌+◌, ℕ, List, [], ◌∷◌, ◌++◌, true, false, cond, length, get_or, take, refl, ap, sym, ◌∙◌, arith, nat_lt, length-append}
use Rattle.std.proofs.Math.Seq.{get_or-append_seam, take-append_seam}
use Rattle.std.proofs.lemmas.Bool.{and_from, lt-ltb, eq-eqb}
use Rattle.problem.specs.Listing.{ends_in, with_end, without_end}

pub ends-pushed : (d : ℕ) (xs : List ℕ) → ends_in d (xs ++ d ∷ []) ≡ true
ends-pushed d xs =
    let size : length (xs ++ d ∷ []) ≡ length xs + 1 = length-append xs (d ∷ []) in
    let last : length (xs ++ d ∷ []) - 1 ≡ length xs = omega (arith, size) in
    let own : get_or (xs ++ d ∷ []) (length (xs ++ d ∷ []) - 1) 0 ≡ d = ap (λ n. get_or (xs ++ d ∷ []) n 0) last ∙ get_or-append_seam xs d [] 0 in
    and_from (nat_lt 0 (length (xs ++ d ∷ []))) _ (lt-ltb 0 _ (omega (arith, size))) (eq-eqb _ d own)

pub without_pushed : (d : ℕ) (xs : List ℕ) → without_end d (xs ++ d ∷ []) ≡ xs
without_pushed d xs =
    let last : length (xs ++ d ∷ []) - 1 ≡ length xs = omega (arith, length-append xs (d ∷ [])) in
    rw (ends-pushed d xs) (ap (λ n. take n (xs ++ d ∷ [])) last ∙ take-append_seam xs (d ∷ []))

-- an end that was put is taken off again
pub without-with : (d : ℕ) (xs : List ℕ) → without_end d (with_end d xs) ≡ without_end d xs
without-with d xs =
    elim (ends_in d xs) as (λ b. ends_in d xs ≡ b → without_end d (cond b xs (xs ++ d ∷ [])) ≡ without_end d xs) [
      | true ↦ λ e. refl
      | false ↦ λ e. without_pushed d xs ∙ sym (ap (λ b. cond b (take (length xs - 1) xs) xs) e)
    ] refl

pub ends-with : (d : ℕ) (xs : List ℕ) → ends_in d (with_end d xs) ≡ true
ends-with d xs =
    elim (ends_in d xs) as (λ b. ends_in d xs ≡ b → ends_in d (cond b xs (xs ++ d ∷ [])) ≡ true) [
      | true ↦ λ e. e
      | false ↦ λ e. ends-pushed d xs
    ] refl
