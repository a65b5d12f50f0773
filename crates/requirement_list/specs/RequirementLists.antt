-- The list of all dependencies, and what refuses one.
use Rattle.std.specs.Prelude.{◌≡◌, ◌⊎◌, ℕ, Bool, List, map, length, Option, Some, None, option_map}
use Rattle.std.specs.List.{sum_by}
use Rattle.problem.specs.declared.limits.Which.TheVariants.{Dependencies, Targets}
use Rattle.problem.specs.declared.limits.ProblemEnd.{ProblemEnd}
use Rattle.problem.specs.Limits.{most_dependencies, most_targets, refusal}
use Rattle.resolver_model.specs.Problems.{Problem}
use Rattle.universe_model.specs.Dependencies.{Requirement}
use Rattle.universe_model.specs.Universes.{dependency_in}
use Rattle.universe_model.specs.Faults.{build_end}
use Rattle.universe_model.specs.declared.BuildEnd.{BuildEnd}
use Rattle.universe_model.specs.declared.BuildEnd.TheVariants.{NoMemory}
use Rattle.requirement_list.specs.declared.RequirementList.{RequirementList}

-- how many targets dependencies have together
abbrev pub target_count : List Requirement → ℕ
target_count rs = sum_by (λ r. length r.dependency.targets) rs

-- what refuses a list of dependencies: they are counted first, and then targets over all of them
abbrev pub requirement_refusal : List Requirement → Option ProblemEnd
requirement_refusal rs =
    refusal Dependencies most_dependencies (length rs)
    (refusal Targets most_targets (target_count rs) None)

-- Why a list of dependencies was not made: what refuses it, or want of memory.
abbrev pub IsEndOf : List Requirement → BuildEnd → Type 0
IsEndOf all end = (end ≡ NoMemory) ⊎ (option_map build_end (requirement_refusal all) ≡ Some end)

abbrev pub group_in : Requirement → ℕ
group_in r = r.group

abbrev pub conflict_in : Requirement → Bool
conflict_in r = r.conflict

-- The list of dependencies over the packages of a problem.
pub record IsRequirementList (packages : Problem) (rs : List Requirement) (list : RequirementList) : Type 0 where
  pub problem : list.problem ≡ record { owners = packages.owners; starts = packages.starts; dependencies = map dependency_in rs }
  pub groups : list.groups.items ≡ map group_in rs
  pub conflicts : list.conflicts.items ≡ map conflict_in rs
  pub within : requirement_refusal rs ≡ None
