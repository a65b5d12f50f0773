-- What stands at a place of the numbers below one.
use Rattle.std.proofs.Common.{◌≡◌, ◌<◌, ◌≤◌, ◌⊎◌, inl, inr, ℕ, zero, suc, [], ◌∷◌, ◌++◌, length, get_or, arith, ap, ◌∙◌}
use Rattle.std.proofs.lemmas.Bool.{cases_lt}
use Rattle.std.proofs.lemmas.List.{get_or_append_left}
use Rattle.std.proofs.Math.Seq.{get_or-append_seam}
use Rattle.lists.specs.Below.{below}
use Rattle.lists.proofs.Below.{length-below}

pub get_or-below : (n c : ℕ) → c < n → get_or (below n) c 0 ≡ c
get_or-below zero c less = absurd (omega arith)
get_or-below (suc n) c less = by (cases_lt c n) (get_or-below n c)
  where
    by : (c < n) ⊎ (n ≤ c) → (c < n → get_or (below n) c 0 ≡ c) → get_or (below n ++ n ∷ []) c 0 ≡ c
    by (inl low) rest = get_or_append_left (below n) (n ∷ []) 0 c (omega (arith, length-below n)) ∙ rest low
    by (inr high) rest =
        let end : c ≡ length (below n) = omega (arith, length-below n) in
        let last : n ≡ c = omega arith in
        ap (λ k. get_or (below n ++ n ∷ []) k 0) end ∙ get_or-append_seam (below n) n [] 0 ∙ last
