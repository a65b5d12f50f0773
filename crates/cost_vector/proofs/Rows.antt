-- What the list of amounts of a table shows of its levels.
use Rattle.std.proofs.Common.{◌≡◌, ◌<◌, ◌≤◌, ◌+◌, ◌*◌, ◌-◌, ◌∙◌, zero, suc, ℕ, Bool, false, List, [], ◌∷◌, ◌++◌, length, take, drop, set, map, replicate, get_or, refl, ap, arith, length-drop, drop-cons, add-one, append_assoc}
use Rattle.std.proofs.Math.Nat.{suc-mul, mul_comm}
use Rattle.std.proofs.Math.Seq.{take-set-lt}
use Rattle.std.proofs.lemmas.List.{take-replicate, drop-replicate, take-set-le, drop-set-lt, drop-set-add}
use Rattle.std.proofs.lemmas.Nat.{mul-add-lt}
use Rattle.resolver_model.specs.Costs.{Level, empty_table, with_amount}
use Rattle.cost_vector.specs.Rows.{levels_of}

pub length-levels_of : (n : ℕ) (kinds : List Bool) (amounts : List ℕ) → length (levels_of n kinds amounts) ≡ length kinds
length-levels_of n [] amounts = refl
length-levels_of n (kind ∷ kinds) amounts = ap suc (length-levels_of n kinds (drop n amounts))

-- amounts that are all 0
pub levels_of-replicate : (n : ℕ) (kinds : List Bool) (count : ℕ) → count ≡ length kinds * n → levels_of n kinds (replicate count 0) ≡ (empty_table kinds n).levels
levels_of-replicate n [] count e = refl
levels_of-replicate n (kind ∷ kinds) count e =
    let more : count ≡ length kinds * n + n = e ∙ suc-mul (length kinds) n in
    let zero_amount : ℕ = 0 in
    let first : take n (replicate count zero_amount) ≡ replicate n zero_amount = take-replicate n count 0 (omega arith) in
    let others : drop n (replicate count zero_amount) ≡ replicate (count - n) zero_amount = drop-replicate n count 0 in
    rw (first, others) (ap (λ levels. record { greatest = kind; amounts = replicate n 0 } ∷ levels) (levels_of-replicate n kinds (count - n) (omega arith)))

-- the place of an amount
pub place_fits : (n : ℕ) (kinds : List Bool) (amounts : List ℕ) (level c : ℕ) → length amounts ≡ length kinds * n → level < length kinds → c < n → level * n + c < length amounts
place_fits n kinds amounts level c e l k =
    let at : level * n + c < n * length kinds = mul-add-lt level n c (length kinds) l k in
    omega (arith, at, e, mul_comm n (length kinds))

-- one amount set
pub levels_of-set : (n : ℕ) (kinds : List Bool) (amounts : List ℕ) (level c amount : ℕ) → c < n → level < length kinds
    → levels_of n kinds (set amounts (level * n + c) amount) ≡ (with_amount (record { choices = n; levels = levels_of n kinds amounts }) level c amount).levels
levels_of-set n [] amounts level c amount k l = absurd (omega arith)
levels_of-set n (kind ∷ kinds) amounts zero c amount k l =
    let place : zero * n + c ≡ c = omega arith in
    rw (place, take-set-lt n amounts c amount k, drop-set-lt n amounts c amount k) refl
levels_of-set n (kind ∷ kinds) amounts (suc level) c amount k l =
    let place : suc level * n + c ≡ n + (level * n + c) = omega (arith, suc-mul level n) in
    let first : take n (set amounts (n + (level * n + c)) amount) ≡ take n amounts = take-set-le n amounts (n + (level * n + c)) amount (omega arith) in
    let others : drop n (set amounts (n + (level * n + c)) amount) ≡ set (drop n amounts) (level * n + c) amount = drop-set-add n amounts (level * n + c) amount in
    rw (place, first, others) (ap (λ levels. record { greatest = kind; amounts = take n amounts } ∷ levels) (levels_of-set n kinds (drop n amounts) level c amount k (omega arith)))

-- the level at a place, and those after it
pub levels_of-drop : (n : ℕ) (kinds : List Bool) (i : ℕ) (amounts : List ℕ) → i < length kinds
    → levels_of n (drop i kinds) amounts ≡ record { greatest = get_or kinds i false; amounts = take n amounts } ∷ levels_of n (drop (i + 1) kinds) (drop n amounts)
levels_of-drop n kinds i amounts h = rw (add-one, drop-cons kinds i false) refl

-- what is left of the amounts after one more level
pub rows_left : (n : ℕ) (kinds : List Bool) (i rest : ℕ) → i < length kinds → rest ≡ length (drop i kinds) * n → (n ≤ rest) × (rest - n ≡ length (drop (i + 1) kinds) * n)
rows_left n kinds i rest h e =
    let one_more : length (drop i kinds) ≡ suc (length (drop (i + 1) kinds)) = omega (arith, length-drop i kinds, length-drop (i + 1) kinds) in
    let product : rest ≡ length (drop (i + 1) kinds) * n + n = e ∙ ap (λ k. k * n) one_more ∙ suc-mul (length (drop (i + 1) kinds)) n in
    (omega arith, omega arith)

-- one more level's cost is pushed
pub next_cost : (f : Level → ℕ) (n : ℕ) (kinds : List Bool) (i : ℕ) (rest row others parts pushed all : List ℕ) (value : ℕ) → i < length kinds
    → parts ++ map f (levels_of n (drop i kinds) rest) ≡ all → row ≡ take n rest → others ≡ drop n rest
    → value ≡ f (record { greatest = get_or kinds i false; amounts = row }) → pushed ≡ parts ++ value ∷ []
    → pushed ++ map f (levels_of n (drop (i + 1) kinds) others) ≡ all
next_cost f n kinds i rest row others parts pushed all value h e r o v p =
    let now = levels_of-drop n kinds i rest h in
    rw (p, o, v, r, append_assoc) (rw now at e)
