-- The versions of a package that an item leaves, by those that meet it.
use Rattle.std.specs.Prelude.{◌≡◌, ℕ, true, nat_lt, ◌&&◌, not, List, [], nat_le, if◌then◌else◌}
use Rattle.std.specs.List.{filter, list_all}
use Rattle.lists.specs.Below.{below}
use Rattle.lists.specs.Sets.{has, is_rising}
use Rattle.problem.specs.Places.{absent_of, end_of}
use Rattle.resolver_model.specs.Problems.{Problem, version_count}
use Rattle.requirement_list.specs.Extents.{lists}
use Rattle.requirement_list.specs.Left.{Left}
use Rattle.requirement_list.specs.declared.answers.Extent.{Extent}

-- the numbers from one to before another that are not among the met ones
abbrev pub unmet : List ℕ → ℕ → ℕ → List ℕ
unmet met first end = filter (λ v. nat_le first v && not (has met v)) (below end)

-- the versions of a package that are not among the met ones
abbrev pub left_of : Problem → List ℕ → ℕ → List ℕ
left_of p met q = unmet met (absent_of p q) (end_of p q)

-- they rise, and are versions
pub record AreLeft (p : Problem) (met : List ℕ) (q : ℕ) (targets : List ℕ) : Type 0 where
  pub numbers : targets ≡ left_of p met q
  pub rising : is_rising targets ≡ true
  pub range : list_all (λ v. nat_lt v (version_count p)) targets ≡ true

-- the package with them, where they are listed
abbrev pub package_left : Problem → Extent → List ℕ → ℕ → Left
package_left p extent met q = record { owner = q; versions = if lists extent q then left_of p met q else [] }
