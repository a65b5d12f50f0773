-- The dependencies of versions (Debian Policy 7.2 to 7.4), after Burrows, "Modelling and Resolving Software Dependencies".
use Rattle.std.specs.Prelude.{ℕ, Bool, true, false, not, ◌&&◌, ◌==◌, List, [], ◌++◌, map, length, Option, Some, None}
use Rattle.std.specs.List.{filter, flat_map, list_any}
use Rattle.lists.specs.Below.{below}
use Rattle.lists.specs.Sets.{has}
use Rattle.resolver_model.specs.Problems.{Dependency}
use Rattle.dep_fields.specs.Relationships.{Relationship}
use Rattle.universe_model.specs.Lists.{map_from, numbers_of}
use Rattle.universe_model.specs.Versions.{Release, Version, concat, is_of}
use Rattle.universe_model.specs.Meeting.{meets, meets_any}

-- A dependency, and the field it is of: the place from 1 of its group in Recommends, 0 for another field, and whether it is
-- one of Conflicts or Breaks.
pub record Requirement : Type 0 where
  pub dependency : Dependency
  pub group : ℕ
  pub conflict : Bool

-- What the dependencies are made from: the native architecture, all versions, and the installed version of each package.
pub record Setting : Type 0 where
  pub native : List ℕ
  pub versions : List Version
  pub installed : List ℕ

-- ---- Pre-Depends and Depends: one of the versions that meet one of the group's items

abbrev pub targets_of : Setting → List Relationship → List ℕ
targets_of s group = numbers_of (meets_any s.native group) s.versions

abbrev pub of_group : Setting → ℕ → List Relationship → Requirement
of_group s source group =
    record { dependency = record { source = source; targets = targets_of s group; soft = false }; group = 0; conflict = false }

-- ---- Recommends: the same, and soft

abbrev pub recommended : Setting → ℕ → ℕ → List Relationship → Requirement
recommended s source place group =
    record { dependency = record { source = source; targets = targets_of s group; soft = true }; group = place; conflict = false }

-- whether it is broken in the installed state
abbrev pub is_broken_now : Setting → Requirement → Bool
is_broken_now s r = has s.installed r.dependency.source && not (list_any (has s.installed) r.dependency.targets)

-- A Recommends of an installed version that is broken in the installed state is not counted.
abbrev pub of_recommends : Setting → ℕ → List (List Relationship) → List Requirement
of_recommends s source groups = filter (λ r. not (is_broken_now s r)) (map_from (recommended s source) 1 groups)

-- ---- Conflicts and Breaks: of each other package with a version that meets the item, a version that does not

-- whether a package has a version that meets an item
abbrev pub is_met_in : Setting → Relationship → ℕ → Bool
is_met_in s item q = list_any (λ v. is_of q v && meets s.native item v) s.versions

-- its versions that do not, absent among them
abbrev pub unmet_in : Setting → Relationship → ℕ → List ℕ
unmet_in s item q = numbers_of (λ v. is_of q v && not (meets s.native item v)) s.versions

-- the packages that an item concerns, in order; it does not concern the source's own package, which may provide the name
abbrev pub concerned : Setting → ℕ → Relationship → List ℕ
concerned s own item = filter (λ q. not (q == own) && is_met_in s item q) (below (length s.installed))

abbrev pub avoided : Setting → ℕ → Relationship → ℕ → Requirement
avoided s source item q =
    record { dependency = record { source = source; targets = unmet_in s item q; soft = false }; group = 0; conflict = true }

abbrev pub of_conflict : Setting → ℕ → ℕ → Relationship → List Requirement
of_conflict s source own item = map (avoided s source item) (concerned s own item)

abbrev pub of_conflicts : Setting → ℕ → ℕ → List (List Relationship) → List Requirement
of_conflicts s source own groups = flat_map (of_conflict s source own) (concat groups)

-- ---- all dependencies of a version, and of all versions in order

abbrev pub of_release : Setting → ℕ → ℕ → Option Release → List Requirement
of_release s source own None = []
of_release s source own (Some release) =
    map (of_group s source) release.pre_depends
    ++ (map (of_group s source) release.depends
    ++ (of_recommends s source release.recommends
    ++ (of_conflicts s source own release.conflicts ++ of_conflicts s source own release.breaks)))

abbrev pub of_version : Setting → ℕ → Version → List Requirement
of_version s source v = of_release s source v.package_number v.release

abbrev pub requirements : Setting → List Requirement
requirements s = concat (map_from (of_version s) 0 s.versions)
