-- Which set answers a request for the next solution.
use Rattle.std.specs.Prelude.{◌≢◌, ℕ, Bool, not, ◌&&◌, List, IsTrue, IsFalse}
use Rattle.std.specs.List.{list_any}
use Rattle.lists.specs.Sets.{is_subset}
use Rattle.resolver_model.specs.Problems.{Problem, is_solution}
use Rattle.resolver_model.specs.Costs.{Table, cost, IsBefore}
use Rattle.resolver_model.specs.Rules.{Rules, keeps}

-- A set is obtainable if it is a solution, keeps the rules, and has no delivery as a subset.
abbrev pub is_obtainable : Problem → Table → Rules → List (List ℕ) → List ℕ → Bool
is_obtainable p table rules given set = is_solution p set && keeps rules set (cost table set) && not (list_any (λ delivery. is_subset delivery set) given)

-- The first set is the obtainable one that is before all other obtainable sets.
pub record IsFirst (p : Problem) (table : Table) (rules : Rules) (given : List (List ℕ)) (set : List ℕ) : Type 0 where
  pub obtainable : IsTrue (is_obtainable p table rules given set)
  pub before : (other : List ℕ) → IsTrue (is_obtainable p table rules given other) → other ≢ set → IsBefore table set other

-- no set is obtainable
abbrev pub IsNoneLeft : Problem → Table → Rules → List (List ℕ) → Type 0
IsNoneLeft p table rules given = (set : List ℕ) → IsFalse (is_obtainable p table rules given set)
