-- Which dependencies a version or a package has to do with, and which are broken to begin with.
use Rattle.std.specs.Prelude.{ℕ, Bool, not, ◌&&◌, ◌||◌, List, [], ◌==◌}
use Rattle.std.specs.List.{filter, list_any}
use Rattle.lists.specs.Below.{below}
use Rattle.lists.specs.Sets.{has}
use Rattle.resolver_model.specs.Problems.{Problem, dependency, dependency_count, package_of, is_in_state, is_broken}

-- the dependencies of a version: those with it as their source, rising
abbrev pub deps_of : Problem → ℕ → List ℕ
deps_of p v = filter (λ d. (dependency p d).source == v) (below (dependency_count p))

-- the dependencies on a version: those with it among their targets, rising
abbrev pub deps_on : Problem → ℕ → List ℕ
deps_on p v = filter (λ d. has (dependency p d).targets v) (below (dependency_count p))

-- whether the dependency has a version of the package as its source or among its targets
abbrev pub touches : Problem → ℕ → ℕ → Bool
touches p q d = (package_of p (dependency p d).source == q) || list_any (λ t. package_of p t == q) (dependency p d).targets

-- the dependencies that touch the package, rising
abbrev pub touching : Problem → ℕ → List ℕ
touching p q = filter (touches p q) (below (dependency_count p))

-- the dependencies that are broken at the empty set, rising
abbrev pub broken_at_start : Problem → List ℕ
broken_at_start p = filter (is_broken p []) (below (dependency_count p))

-- whether a dependency of this source on these targets is broken at the empty set
abbrev pub is_unmet : Problem → ℕ → List ℕ → Bool
is_unmet p source targets = is_in_state p [] source && not (list_any (is_in_state p []) targets)
