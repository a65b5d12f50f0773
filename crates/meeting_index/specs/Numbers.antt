-- Numbers that are counted from another one than 0.
use Rattle.std.specs.Prelude.{ℕ, Bool, List, map}
use Rattle.std.specs.List.{filter, enumerate_from}
use Rattle.universe_model.specs.Lists.{number_in}

-- the numbers of those that pass, counted from n
abbrev pub numbers_from : {A : Type 0} → ℕ → (A → Bool) → List A → List ℕ
numbers_from {A} n test xs = map (number_in {A = A}) (filter (λ (numbered : ℕ × A). test numbered.1) (enumerate_from n xs))
