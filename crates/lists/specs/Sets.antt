-- Finite sets of numbers. A set is its list, strictly rising.
use Rattle.std.specs.Prelude.{ℕ, Bool, true, not, cond, ◌&&◌, List, [], ◌∷◌, ◌==◌, nat_lt}
use Rattle.std.specs.List.{list_any, list_all, filter}

-- each number is below all later ones
abbrev pub is_rising : List ℕ → Bool
is_rising [] = true
is_rising (x ∷ xs) = list_all (λ y. nat_lt x y) xs && is_rising xs

-- whether c is in the set
abbrev pub has : List ℕ → ℕ → Bool
has xs c = list_any (λ x. x == c) xs

-- whether each member of xs is in ys
abbrev pub is_subset : List ℕ → List ℕ → Bool
is_subset xs ys = list_all (λ x. has ys x) xs

-- whether no member of xs is in ys
abbrev pub is_disjoint : List ℕ → List ℕ → Bool
is_disjoint xs ys = list_all (λ x. not (has ys x)) xs

-- the set with c
abbrev pub with : List ℕ → ℕ → List ℕ
with [] c = c ∷ []
with (x ∷ xs) c = cond (nat_lt x c) (x ∷ with xs c) (cond (x == c) (x ∷ xs) (c ∷ x ∷ xs))

-- the set without c
abbrev pub without : List ℕ → ℕ → List ℕ
without xs c = filter (λ x. not (x == c)) xs

-- the set with all members of the other
abbrev pub union : List ℕ → List ℕ → List ℕ
union xs [] = xs
union xs (y ∷ ys) = union (with xs y) ys
