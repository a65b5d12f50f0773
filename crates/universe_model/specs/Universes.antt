-- A universe: the packages, versions and dependencies of two texts, and the problem that they are.
use Rattle.std.specs.Prelude.{◌≡◌, ℕ, Bool, false, ◌&&◌, ◌==◌, List, [], map, length, Option, Some, None, slice_index_or}
use Rattle.std.specs.List.{position, position_or_len}
use Rattle.std.specs.Option.{option_map}
use Rattle.lists.specs.Below.{below}
use Rattle.deb_version.specs.Versions.{Parts, parts}
use Rattle.resolver_model.specs.Problems.{Problem, Dependency, no_dependency}
use Rattle.ascii.specs.Texts.{is_same}
use Rattle.universe_model.specs.Lists.{map_from}
use Rattle.universe_model.specs.Reading.{Texts, Stanzas, stanzas_of}
use Rattle.universe_model.specs.Versions.{Release, Version, names, versions, is_equal, is_release_with, installed_of, candidate_of, is_held}
use Rattle.universe_model.specs.Dependencies.{Requirement, requirements}

-- What is known of a version: its package, its text as it was first read, and whether it is essential (Debian Policy 5.6.9).
-- What is absent has no text.
pub record Known : Type 0 where
  pub package_number : ℕ
  pub text : Option (List ℕ)
  pub essential : Bool

abbrev pub known : Version → Known
known v = record {
  package_number = v.package_number;
  text = option_map (λ (release : Release). release.text) v.release;
  essential = is_release_with (λ release. release.essential) v.release;
}

-- The native architecture; for each package its name, its installed version, its candidate and whether it is held; all
-- versions; and the dependencies, each with its field.
pub record Universe : Type 0 where
  pub native : List ℕ
  pub names : List (List ℕ)
  pub installed : List ℕ
  pub candidates : List ℕ
  pub held : List Bool
  pub versions : List Known
  pub requirements : List Requirement

abbrev pub installed_in : Stanzas → List (List ℕ) → List Version → List ℕ
installed_in stanzas ns vs = map_from (installed_of vs stanzas.status) 0 ns

abbrev pub universe_with : List ℕ → Stanzas → List (List ℕ) → List Version → List ℕ → Universe
universe_with native stanzas ns vs installed = record {
  native = native;
  names = ns;
  installed = installed;
  candidates = map (candidate_of vs) (below (length ns));
  held = map (is_held stanzas.status) ns;
  versions = map known vs;
  requirements = requirements (record { native = native; versions = vs; installed = installed });
}

-- the universe of stanzas
abbrev pub universe_of : List ℕ → Stanzas → Universe
universe_of native stanzas =
    universe_with native stanzas (names stanzas) (versions stanzas) (installed_in stanzas (names stanzas) (versions stanzas))

-- the universe of two texts
abbrev pub universe : Texts → Universe
universe texts = universe_of texts.native (stanzas_of texts)

-- ---- the problem: start versions are the installed ones, or those that actions give

abbrev pub owner_of : Known → ℕ
owner_of v = v.package_number

abbrev pub dependency_in : Requirement → Dependency
dependency_in r = r.dependency

abbrev pub problem_from : Universe → List ℕ → Problem
problem_from u starts = record { owners = map owner_of u.versions; starts = starts; dependencies = map dependency_in u.requirements }

abbrev pub problem_of : Universe → Problem
problem_of u = problem_from u u.installed

-- A problem beside a universe has its versions and its dependencies; the start versions may be others.
pub record IsProblemOf (u : Universe) (p : Problem) : Type 0 where
  pub same : p ≡ problem_from u p.starts

-- ---- what is asked of a universe

-- the package of a name
abbrev pub package_named : Universe → List ℕ → Option ℕ
package_named u name = position (is_same name) u.names

abbrev pub name_of_package : Universe → ℕ → List ℕ
name_of_package u q = slice_index_or u.names q []

abbrev pub is_of : ℕ → Known → Bool
is_of q v = v.package_number == q

-- the number of absent, the package's first version
abbrev pub absent_in : Universe → ℕ → ℕ
absent_in u q = position_or_len (is_of q) u.versions

abbrev pub is_text_of : Parts → Option (List ℕ) → Bool
is_text_of ps None = false
is_text_of ps (Some text) = is_equal (parts text) ps

-- the version of a package that is equal to these parts
abbrev pub version_in : Universe → ℕ → Parts → Option ℕ
version_in u q ps = position (λ v. is_of q v && is_text_of ps v.text) u.versions

abbrev pub nothing_known : Known
nothing_known = record { package_number = 0; text = None; essential = false }

abbrev pub version_numbered : Universe → ℕ → Known
version_numbered u v = slice_index_or u.versions v nothing_known

abbrev pub no_requirement : Requirement
no_requirement = record { dependency = no_dependency; group = 0; conflict = false }

abbrev pub requirement_numbered : Universe → ℕ → Requirement
requirement_numbered u d = slice_index_or u.requirements d no_requirement

-- the place from 1 of a soft dependency's group in Recommends
abbrev pub group_of : Universe → ℕ → ℕ
group_of u d = (requirement_numbered u d).group

-- whether a dependency is one of Conflicts or Breaks
abbrev pub is_conflict : Universe → ℕ → Bool
is_conflict u d = (requirement_numbered u d).conflict
