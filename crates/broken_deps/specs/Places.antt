-- What a set installs, by places that packages share.
use Rattle.std.specs.Prelude.{◌≡◌, ◌<◌, ◌==◌, ℕ, ◌%◌, List, Option, Some, None, if◌then◌else◌, slice_index_or}
use Rattle.std.specs.List.{find}
use Rattle.resolver_model.specs.Problems.{Problem, installs_of, package_of, version_count}
use Rattle.broken_deps.specs.declared.installed.Place.{Place}
use Rattle.broken_deps.specs.declared.installed.Place.TheVariants.{Nothing, One, Several}

abbrev pub place_of : ℕ → ℕ
place_of q = q % 1024

-- a place with one version more
abbrev pub with_version : Place → ℕ → Place
with_version Nothing v = One v
with_version (One other) v = Several
with_version Several v = Several

-- which version of a package its place tells of
abbrev pub told : Problem → ℕ → Place → Option ℕ
told p q Nothing = None
told p q (One v) = if package_of p v == q then Some v else None
told p q Several = None

-- where it is not shared by several versions, a place tells the first one of the package that the set installs
pub record Tells (p : Problem) (set : List ℕ) (q : ℕ) (place : Place) : Type 0 where
  pub within : (v : ℕ) → place ≡ One v → v < version_count p
  pub found : (place ≡ Several → ⊥) → find (installs_of p q) set ≡ told p q place

abbrev pub AreNoted : Problem → List Place → List ℕ → Type 0
AreNoted p places set = (q : ℕ) → Tells p set q (slice_index_or places (place_of q) Nothing)
