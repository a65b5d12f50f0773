-- How much one problem may have, and what the limits refuse.
use Rattle.std.specs.Prelude.{◌≡◌, ◌⊎◌, ◌≤◌, ℕ, ◌+◌, List, length, nat_lt, if◌then◌else◌, Option, Some, None, Result, Ok, Err}
use Rattle.std.specs.List.{sum_by}
use Rattle.resolver_model.specs.Problems.{Problem, version_count, package_count, dependency_count}
use Rattle.problem.specs.declared.limits.Which.{Which}
use Rattle.problem.specs.declared.limits.Which.TheVariants.{Packages, Versions, Dependencies, Targets}
use Rattle.problem.specs.declared.limits.ProblemEnd.{ProblemEnd}
use Rattle.problem.specs.declared.limits.ProblemEnd.TheVariants.{Limit, NoMemory}

abbrev pub most_packages : ℕ
most_packages = 200000

-- the versions that stand for absent are counted too
abbrev pub most_versions : ℕ
most_versions = 1000000

abbrev pub most_dependencies : ℕ
most_dependencies = 4000000

-- over all dependencies
abbrev pub most_targets : ℕ
most_targets = 16000000

abbrev pub target_count : Problem → ℕ
target_count p = sum_by (λ d. length d.targets) p.dependencies

pub record IsWithinLimits (p : Problem) : Type 0 where
  pub packages : package_count p ≤ most_packages
  pub versions : version_count p ≤ most_versions
  pub dependencies : dependency_count p ≤ most_dependencies
  pub targets : target_count p ≤ most_targets

-- the answer to a count that would exceed the most that there may be; it carries the least count that does
abbrev pub end_past : Which → ℕ → ProblemEnd
end_past which most = Limit which (most + 1)

abbrev pub refusal : Which → ℕ → ℕ → Option ProblemEnd → Option ProblemEnd
refusal which most count otherwise = if nat_lt most count then Some (end_past which most) else otherwise

-- what refuses a package of absent and `present` further versions, packages before versions
abbrev pub package_refusal : Problem → ℕ → Option ProblemEnd
package_refusal p present =
    refusal Packages most_packages (package_count p + 1)
    (refusal Versions most_versions (version_count p + present + 1) None)

-- what refuses a dependency on these targets, dependencies before targets
abbrev pub dependency_refusal : Problem → List ℕ → Option ProblemEnd
dependency_refusal p targets =
    refusal Dependencies most_dependencies (dependency_count p + 1)
    (refusal Targets most_targets (target_count p + length targets) None)

-- A call that adds one answers what refuses it, if anything does, or else the number of the one added, or want of memory.
abbrev pub IsAnswer : Option ProblemEnd → ℕ → Result ℕ ProblemEnd → Type 0
IsAnswer (Some end) number result = result ≡ Err end
IsAnswer None number result = (result ≡ Ok number) ⊎ (result ≡ Err NoMemory)
