-- Numbers in lists: things are numbered from 0 in their order.
use Rattle.std.specs.Prelude.{ℕ, ◌+◌, Bool, List, [], ◌∷◌, map}
use Rattle.std.specs.List.{filter, enumerate_from}
pub use Rattle.lists.specs.Distinct.{distinct}

-- what f gives for each and its number, counted from n
abbrev pub map_from : {A B : Type 0} → (ℕ → A → B) → ℕ → List A → List B
map_from f n [] = []
map_from f n (x ∷ xs) = f n x ∷ map_from f (n + 1) xs

abbrev pub number_in : {A : Type 0} → ℕ × A → ℕ
number_in numbered = numbered.0

-- the numbers of those that pass, rising
abbrev pub numbers_of : {A : Type 0} → (A → Bool) → List A → List ℕ
numbers_of {A} test xs = map (number_in {A = A}) (filter (λ (numbered : ℕ × A). test numbered.1) (enumerate_from 0 xs))
