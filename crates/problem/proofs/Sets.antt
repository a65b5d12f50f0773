-- A choice set with one more choice.
use Rattle.std.proofs.Common.{◌≡◌, ◌<◌, ℕ, List, true, IsTrue, nat_lt}
use Rattle.std.specs.List.{list_all}
use Rattle.std.proofs.lemmas.Bool.{and_from, lt-ltb}
use Rattle.lists.proofs.Truth.{and_first, and_second}
use Rattle.lists.proofs.With.{list_all-with, is_rising-with}
use Rattle.lists.specs.Sets.{is_rising, with}
use Rattle.resolver_model.specs.Problems.{Problem, is_choice, is_choice_set}

pub choice_set_with : (p : Problem) (set : List ℕ) (c : ℕ) → IsTrue (is_choice_set p set) → is_choice p c ≡ true → IsTrue (is_choice_set p (with set c))
choice_set_with p set c h k =
    and_from (is_rising (with set c)) (list_all (is_choice p) (with set c)) (is_rising-with set c (and_first (is_rising set) (list_all (is_choice p) set) h))
    (list_all-with (is_choice p) set c (and_second (is_rising set) (list_all (is_choice p) set) h) k)

-- a set of numbers below one, with one more
pub versions_with : (n : ℕ) (set : List ℕ) (c : ℕ) → IsTrue (list_all (λ v. nat_lt v n) set) → c < n → IsTrue (list_all (λ v. nat_lt v n) (with set c))
versions_with n set c h lt = list_all-with (λ v. nat_lt v n) set c h (lt-ltb c n lt)
