-- Which versions meet an item of a relationship field (Debian Policy 7.1 and 7.5).
use Rattle.std.specs.Prelude.{ℕ, Bool, true, false, ◌&&◌, ◌||◌, List, Option, Some, None, codes}
use Rattle.std.specs.List.{list_any}
use Rattle.deb_version.specs.Versions.{Parts}
use Rattle.deb_version.specs.VersionOrder.{version_order}
use Rattle.dep_fields.specs.Operators.{holds}
use Rattle.dep_fields.specs.Relationships.{Relationship, VersionBound}
use Rattle.ascii.specs.Texts.{is_same}
use Rattle.universe_model.specs.Versions.{Release, Version, is_release_with}

-- `name:any`, `name:native` and `name:` with the native architecture are read as the name alone.
abbrev pub is_plain : List ℕ → Option (List ℕ) → Bool
is_plain native None = true
is_plain native (Some arch) = is_same arch (codes "any") || (is_same arch (codes "native") || is_same arch native)

-- whether a version is within the bound of an item, if it has one
abbrev pub is_within : Option VersionBound → Parts → Bool
is_within None version = true
is_within (Some bound) version = holds bound.op (version_order version bound.parts)

-- A version of a package meets an item with the package's name, and within whose bound it is.
abbrev pub meets_by_name : Relationship → List ℕ → Release → Bool
meets_by_name item name release = is_same name item.name && is_within item.rel release.parts

-- What is provided without a version meets no item with a bound.
abbrev pub is_provided_within : Option VersionBound → Option VersionBound → Bool
is_provided_within None provided = true
is_provided_within (Some bound) None = false
is_provided_within (Some bound) (Some provided) = holds bound.op (version_order provided.parts bound.parts)

-- an item of Provides with the name, and within the bound
abbrev pub is_provided_by : List ℕ → Relationship → Relationship → Bool
is_provided_by native item provided =
    is_same provided.name item.name && (is_plain native provided.arch && is_provided_within item.rel provided.rel)

abbrev pub meets_by_provides : List ℕ → Relationship → Release → Bool
meets_by_provides native item release = list_any (λ group. list_any (is_provided_by native item) group) release.provides

-- whether a version meets an item: by its package's name or by what it provides; what is absent meets nothing, and no
-- version meets an item with another architecture
abbrev pub meets : List ℕ → Relationship → Version → Bool
meets native item v =
    is_plain native item.arch
    && is_release_with (λ release. meets_by_name item v.name release || meets_by_provides native item release) v.release

-- whether it meets one of the items of a group
abbrev pub meets_any : List ℕ → List Relationship → Version → Bool
meets_any native group v = list_any (λ item. meets native item v) group
