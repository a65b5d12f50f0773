-- How many numbers there are.
use Rattle.std.proofs.Common.{◌≡◌, ◌+◌, ◌≤◌, ◌<◌, ℕ, ◌∙◌, sym, refl, List, [], ◌∷◌, Bool, true, false, cond, not, ◌||◌, nat_eq, nat_lt, Option, Some, None, if◌then◌else◌, arith, length, length-append}
use Rattle.std.specs.List.{filter, flat_map, list_all}
use Rattle.std.proofs.lemmas.Bool.{and_from, and_parts}
use Rattle.std.proofs.lemmas.Bool.Decides.{nat_tests}
use Rattle.lists.specs.Sets.{has, is_rising}
use Rattle.lists.proofs.Sets.{has-filter, has-first, has_above}
use Rattle.dep_fields.specs.Relationships.{VersionBound}
use Rattle.meeting_index.specs.Carriers.{Carrier, met_under}

abbrev is_other : ℕ → ℕ → Bool
is_other x y = not (nat_eq y x)

fewer : (x : ℕ) (ys : List ℕ) → length (filter (is_other x) ys) ≤ length ys
fewer x [] = omega arith
fewer x (y ∷ ys) =
    let rest = fewer x ys in
    elim (is_other x y) as (λ b. length (cond b (y ∷ filter (is_other x) ys) (filter (is_other x) ys)) ≤ length (y ∷ ys)) [ true ↦ omega arith | false ↦ omega arith ]

one-less-cases : (x y : ℕ) (ys : List ℕ) (b : Bool) → (b ≡ false → length (filter (is_other x) ys) + 1 ≤ length ys)
    → length (cond (not b) (y ∷ filter (is_other x) ys) (filter (is_other x) ys)) + 1 ≤ length (y ∷ ys)
one-less-cases x y ys true rest = let most = fewer x ys in omega arith
one-less-cases x y ys false rest = let most = rest refl in omega arith

left-false : (a b : Bool) → (a || b) ≡ true → a ≡ false → b ≡ true
left-false true b e f = absurd (cc)
left-false false b e f = e

one-less : (x : ℕ) (ys : List ℕ) → has ys x ≡ true → length (filter (is_other x) ys) + 1 ≤ length ys
one-less x [] h = absurd (cc)
one-less x (y ∷ ys) h = one-less-cases x y ys (nat_eq y x) (λ e. one-less x ys (left-false (nat_eq y x) (has ys x) h e))

above-other : (x c : ℕ) → x < c → is_other x c ≡ true
above-other x c lt = grind (arith, nat_tests)

-- rising numbers that are all in a list are no more than it has
pub rising-fits : (xs ys : List ℕ) → is_rising xs ≡ true → ((c : ℕ) → has xs c ≡ true → has ys c ≡ true) → length xs ≤ length ys
rising-fits [] ys rises inside = omega arith
rising-fits (x ∷ xs) ys rises inside =
    let parts = and_parts (list_all (λ y. nat_lt x y) xs) (is_rising xs) rises in
    let rest : length xs ≤ length (filter (is_other x) ys) =
    rising-fits xs (filter (is_other x) ys) parts.1
    (λ c h.
    has-filter (is_other x) ys c
    ∙ and_from (is_other x c) (has ys c) (above-other x c (has_above x c xs parts.0 h)) (inside c (second (nat_eq x c) (has xs c) h))) in
    let less = one-less x ys (inside x (has-first x xs)) in
    omega arith
  where
    second : (a b : Bool) → b ≡ true → (a || b) ≡ true
    second true b e = refl
    second false b e = e

-- where there is no number, there are few
pub none-few : (xs : List ℕ) → ((c : ℕ) → has xs c ≡ false) → length xs ≤ 16
none-few [] none = omega arith
none-few (x ∷ xs) none = absurd (let both : true ≡ false = sym (has-first x xs) ∙ none x in cc)

-- a carrier finds one version at most
one-found : (bound : Option VersionBound) (found : Option Carrier) → length (met_under bound found) ≤ 1
one-found bound None = omega arith
one-found bound (Some carrier) =
    elim (carrier.passes bound) as (λ b. length (if b then carrier.version ∷ [] else []) ≤ 1) [ true ↦ omega arith | false ↦ omega arith ]

pub found-few : (bound : Option VersionBound) (look : ℕ → Option Carrier) (numbers : List ℕ) → length (flat_map (λ n. met_under bound (look n)) numbers) ≤ length numbers
found-few bound look [] = omega arith
found-few bound look (n ∷ ns) =
    let one = one-found bound (look n) in
    let rest = found-few bound look ns in
    let both = length-append (met_under bound (look n)) (flat_map (λ m. met_under bound (look m)) ns) in
    omega (arith, both, one, rest)
