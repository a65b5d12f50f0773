-- The pieces that the resolvers of an open dependency are put together from.
use Rattle.std.specs.Prelude.{ℕ, Bool, not, ◌&&◌, List, [], ◌∷◌, nat_lt, nat_le, if◌then◌else◌}
use Rattle.std.specs.List.{filter}
use Rattle.lists.specs.Below.{below}
use Rattle.resolver_model.specs.Problems.{Problem, dependency, leave_of, is_install, changes, package_of}

-- an install on a package that the set does not change
abbrev pub is_free_install : Problem → List ℕ → ℕ → Bool
is_free_install p set c = is_install p c && not (changes p set (package_of p c))

-- the targets from one number to before another that are free installs
abbrev pub free_targets : Problem → List ℕ → ℕ → ℕ → ℕ → List ℕ
free_targets p set d first end = filter (λ c. nat_le first c && nat_lt c end && is_free_install p set c) (dependency p d).targets

-- the free installs from one number to before another
abbrev pub free_versions : Problem → List ℕ → ℕ → ℕ → List ℕ
free_versions p set first end = filter (λ c. nat_le first c && is_free_install p set c) (below end)

-- the leave choice of a soft dependency
abbrev pub leave_choices : Problem → ℕ → List ℕ
leave_choices p d = if (dependency p d).soft then leave_of p d ∷ [] else []
