-- A session may begin with the rules that hints set.
use Rattle.std.proofs.Common.{◌≡◌, ◌≤◌, ◌+◌, ℕ, true, List, refl}
use Rattle.std.specs.List.{list_all}
use Rattle.lists.specs.Below.{below}
use Rattle.lists.proofs.Tests.{list_all-filter, list_all-filter_weaker}
use Rattle.resolver_model.specs.Costs.{Table}
use Rattle.resolver_model.specs.Problems.{Problem, is_choice, choices, version_count, dependency_count}
use Rattle.resolver_model.specs.declared.marks.Mark.{Mark}
use Rattle.resolver_model.specs.declared.marks.Mark.TheVariants.{Approved, Rejected}
use Rattle.hint_effects.specs.Effects.{is_mark, mark_by, marked, rules_of}
use Rattle.hint_effects.specs.declared.Hint.{Hint}
use Rattle.search_core.specs.Begins.{MayBegin}

-- what is marked is a choice
marked-choices : (p : Problem) (hints : List Hint) (mark : Mark) → list_all (is_choice p) (marked p hints mark) ≡ true
marked-choices p hints mark =
    list_all-filter (is_choice p) (λ c. is_mark (mark_by p hints c) mark) (choices p)
    (list_all-filter_weaker (is_choice p) (is_choice p) (λ c is. is) (below (version_count p + dependency_count p)))

pub may_begin : (p : Problem) (table : Table) (hints : List Hint) (slice actors : ℕ) → 1 ≤ slice → 1 ≤ actors → MayBegin p table (rules_of p hints) slice actors
may_begin p table hints slice actors some one = record {
  approved = marked-choices p hints Approved;
  rejected = marked-choices p hints Rejected;
  caps = refl;
  slice_is = some;
  actors_are = one;
}
