-- The orders by which versions and dependencies are found by halves.
use Rattle.std.specs.Prelude.{◌≡◌, ℕ, Bool, true, false, not, cond, nat_lt, Option}
use Rattle.std.specs.Option.{option_map, option_cmp}
use Rattle.std.specs.Ordering.{is_eq, nat_cmp, on, then_cmp}
use Rattle.std.specs.declared.cmp.Ordering.{Ordering}
use Rattle.deb_version.specs.Versions.{Parts, parts}
use Rattle.deb_version.specs.VersionOrder.{version_order}
use Rattle.universe_model.specs.Dependencies.{Requirement}
use Rattle.universe_model.specs.Universes.{Known, owner_of}

-- ---- versions: by package, and of one package in the order of versions, with absent before all others

abbrev pub known_parts : Known → Option Parts
known_parts v = option_map parts v.text

abbrev pub known_order : Known → Known → Ordering
known_order = then_cmp (on owner_of nat_cmp) (on known_parts (option_cmp version_order))

-- two versions are not equal in that order
abbrev pub StandApart : Known → Known → Type 0
StandApart v w = is_eq (known_order v w) ≡ false

-- ---- the dependencies of one version: those of Pre-Depends and Depends first, then those of Recommends by the rising places
-- of their groups, and those of Conflicts and Breaks last

-- whether a dependency stands before the group at a place of the Recommends
abbrev pub is_before : ℕ → Requirement → Bool
is_before place r = cond r.dependency.soft (nat_lt r.group place) (not r.conflict)

-- a dependency is before each place that a later one of its version is before
abbrev pub StaysBefore : Requirement → Requirement → Type 0
StaysBefore r later = r.dependency.source ≡ later.dependency.source → (place : ℕ) → is_before place later ≡ true → is_before place r ≡ true
