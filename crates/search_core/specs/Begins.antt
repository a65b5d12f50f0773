-- What a session may begin with.
use Rattle.std.specs.Prelude.{◌≤◌, ◌+◌, ℕ, length, nat_lt, IsTrue}
use Rattle.std.specs.List.{list_all}
use Rattle.resolver_model.specs.Problems.{Problem, is_choice}
use Rattle.resolver_model.specs.Costs.{Table}
use Rattle.resolver_model.specs.Rules.{Rules}

-- The first rules mark choices of the problem alone, and cap levels of its costs alone; and there is a step to be made and
-- somebody to make it. (A caller can test it. That no choice is marked both ways is in the type of rules.)
pub record MayBegin (p : Problem) (table : Table) (rules : Rules) (slice actors : ℕ) : Type 0 where
  pub approved : IsTrue (list_all (is_choice p) rules.approved)
  pub rejected : IsTrue (list_all (is_choice p) rules.rejected)
  pub caps : IsTrue (list_all (λ c. nat_lt c.0 (length table.levels + 1)) rules.caps)
  pub slice_is : 1 ≤ slice
  pub actors_are : 1 ≤ actors
