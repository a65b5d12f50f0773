-- The first limit that a universe exceeds, and the end of a build of two texts.
use Rattle.std.specs.Prelude.{◌≤◌, ℕ, length, Option, None, option_map}
use Rattle.std.specs.Option.{option_or}
use Rattle.resolver_model.specs.Problems.{Problem, package_count, version_count, dependency_count}
use Rattle.problem.specs.declared.limits.Which.TheVariants.{Packages, Versions, Dependencies, Targets}
use Rattle.problem.specs.declared.limits.ProblemEnd.{ProblemEnd}
use Rattle.problem.specs.Limits.{most_packages, most_versions, most_dependencies, most_targets, target_count, refusal}
use Rattle.universe_model.specs.Faults.{build_end}
use Rattle.universe_model.specs.Reading.{Texts, first_fault}
use Rattle.universe_model.specs.Universes.{universe, problem_of}
use Rattle.universe_model.specs.declared.BuildEnd.{BuildEnd}

-- packages are counted first, then versions, dependencies, and targets over all dependencies
abbrev pub limit_past : Problem → Option ProblemEnd
limit_past p =
    refusal Packages most_packages (package_count p)
    (refusal Versions most_versions (version_count p)
    (refusal Dependencies most_dependencies (dependency_count p)
    (refusal Targets most_targets (target_count p) None)))

-- What refuses two texts: their first fault, or, where they have none, the first limit that is exceeded.
abbrev pub build_refusal : Texts → Option BuildEnd
build_refusal texts = option_or (first_fault texts) (option_map build_end (limit_past (problem_of (universe texts))))

-- ---- files

-- how many bytes a file may have
abbrev pub most_file_bytes : ℕ
most_file_bytes = 268435456

pub record AreWithin (texts : Texts) : Type 0 where
  pub status : length texts.status ≤ most_file_bytes
  pub packages : length texts.packages ≤ most_file_bytes

-- A token names the place of a group of Recommends by up to 9 digits.
abbrev pub most_groups : ℕ
most_groups = 999999999
