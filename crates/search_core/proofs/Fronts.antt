-- What two lists have at the front in common is not outside either.
use Rattle.std.proofs.Common.{◌≡◌, ℕ, List, [], ◌∷◌, Bool, true, false, cond, not, Some, refl, ap, sym, ◌∙◌, nat_eq, eq-eqb, suc, zero, take, drop}
use Rattle.std.specs.List.{find}
use Rattle.std.proofs.lemmas.Bool.{or_left, or_right, not_from_true}
use Rattle.lists.specs.Sets.{has}
use Rattle.search_core.specs.Ways.{first_outside}

-- what another list has is passed over
passed_over : (other : List ℕ) (x : ℕ) (xs : List ℕ) → has other x ≡ true → first_outside (x ∷ xs) other ≡ first_outside xs other
passed_over other x xs there = ap (λ (b : Bool). cond (not b) (Some x) (first_outside xs other)) there

-- so is a front that is that of a list within the other
passes_front : (n : ℕ) (set front other : List ℕ) → ((x : ℕ) → has front x ≡ true → has other x ≡ true) → take n set ≡ take n front → first_outside (drop n set) other ≡ first_outside set other
passes_front zero set front other within same = refl
passes_front (suc n) [] front other within same = refl
passes_front (suc n) (x ∷ xs) [] other within same = absurd (cc)
passes_front (suc n) (x ∷ xs) (y ∷ ys) other within same =
    let head : y ≡ x = cc in
    let tail : take n xs ≡ take n ys = cc in
    passes_front n xs ys other (λ z there. within z (or_right (nat_eq y z) _ there)) tail
    ∙ sym (passed_over other x xs (within x (or_left (nat_eq y x) _ (eq-eqb y x head))))

pub behind_front : (n : ℕ) (set other : List ℕ) → take n set ≡ take n other → first_outside (drop n set) other ≡ first_outside set other
behind_front n set other same = passes_front n set other other (λ x there. there) same
