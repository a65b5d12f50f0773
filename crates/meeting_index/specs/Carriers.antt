-- What carries a name for a version: its package, or an item of its Provides (Debian Policy 7.5).
use Rattle.std.specs.Prelude.{ℕ, Bool, ◌&&◌, List, [], ◌∷◌, ◌++◌, map, if◌then◌else◌, Option, Some, None}
use Rattle.std.specs.List.{filter, flat_map}
use Rattle.dep_fields.specs.Relationships.{Relationship, VersionBound}
use Rattle.ascii.specs.Texts.{is_same}
use Rattle.universe_model.specs.Lists.{map_from}
use Rattle.universe_model.specs.Meeting.{is_plain, is_within, is_provided_within}
use Rattle.universe_model.specs.Versions.{Release, Version, concat, is_release_with}

-- a version, a name that it carries, and the bounds that it passes under this name
pub record Carrier : Type 0 where
  pub version : ℕ
  pub name : List ℕ
  pub passes : Option VersionBound → Bool

-- a version under its package's name
abbrev pub own : ℕ → Version → Carrier
own number v = record { version = number; name = v.name; passes = λ bound. is_release_with (λ release. is_within bound release.parts) v.release }

-- and under the name of an item of its Provides
abbrev pub provided : ℕ → Relationship → Carrier
provided number item = record { version = number; name = item.name; passes = λ bound. is_provided_within bound item.rel }

-- an item with another architecture provides nothing
abbrev pub has_plain_arch : List ℕ → Relationship → Bool
has_plain_arch native item = is_plain native item.arch

abbrev pub provided_in : List ℕ → ℕ → List Relationship → List Carrier
provided_in native number group = map (provided number) (filter (has_plain_arch native) group)

abbrev pub provides_of : Option Release → List (List Relationship)
provides_of None = []
provides_of (Some release) = release.provides

abbrev pub provided_by : List ℕ → ℕ → Version → List Carrier
provided_by native number v = flat_map (provided_in native number) (provides_of v.release)

-- what all versions provide
abbrev pub all_provided : List ℕ → List Version → List Carrier
all_provided native vs = concat (map_from (provided_by native) 0 vs)

-- all carriers: the versions under their own names, and then what they provide
abbrev pub carriers : List ℕ → List Version → List Carrier
carriers native vs = map_from own 0 vs ++ all_provided native vs

-- ---- what is found by a name

abbrev pub is_named : List ℕ → Carrier → Bool
is_named name carrier = is_same carrier.name name

abbrev pub version_in : Carrier → ℕ
version_in carrier = carrier.version

-- whether a carrier meets an item
abbrev pub carries : Relationship → Carrier → Bool
carries item carrier = is_named item.name carrier && carrier.passes item.rel

-- the versions whose carriers meet an item
abbrev pub carried : List ℕ → List Version → Relationship → List ℕ
carried native vs item = if is_plain native item.arch then map version_in (filter (carries item) (carriers native vs)) else []

-- the version of a carrier, if there is one and it passes a bound
abbrev pub met_under : Option VersionBound → Option Carrier → List ℕ
met_under bound None = []
met_under bound (Some carrier) = if carrier.passes bound then carrier.version ∷ [] else []
