-- Carriers of a name that have a version, and bounds.
use Rattle.std.specs.Prelude.{◌≡◌, ℕ, Bool, true, false, ◌&&◌, List, [], ◌∷◌, nat_eq, Option, Some, None}
use Rattle.std.specs.List.{list_any}
use Rattle.std.specs.List.Sorted.{IsSorted}
use Rattle.std.specs.Ordering.{nat_cmp, on, then_cmp}
use Rattle.std.specs.declared.cmp.Ordering.{Ordering}
use Rattle.std.specs.declared.cmp.Ordering.TheVariants as order
use Rattle.deb_version.specs.Versions.{Parts, parts}
use Rattle.deb_version.specs.VersionOrder.{version_order}
use Rattle.deb_version.specs.declared.Version.{Version}
use Rattle.dep_fields.specs.Operators.{holds}
use Rattle.dep_fields.specs.Relationships.{VersionBound}
use Rattle.dep_fields.specs.declared.Op.{Op}
use Rattle.meeting_index.specs.declared.carried.Carried.{Carried}
use Rattle.meeting_index.specs.declared.sides.Side.{Side}
use Rattle.meeting_index.specs.declared.sides.Side.TheVariants as side

abbrev pub version_parts : Version → Parts
version_parts v = parts v.text.now

-- ---- carriers with a version are ordered by it, and then by the numbers of the versions that they stand for

abbrev pub carried_parts : Carried → Parts
carried_parts y = version_parts y.version

abbrev pub carried_number : Carried → ℕ
carried_number y = y.number

abbrev pub carried_carrier : Carried → ℕ
carried_carrier y = y.carrier

abbrev pub carried_order : Carried → Carried → Ordering
carried_order = then_cmp (on carried_parts version_order) (on carried_number nat_cmp)

-- ---- bounds

abbrev pub is_past : VersionBound → Parts → Bool
is_past bound version = holds bound.op (version_order version bound.parts)

-- whether what is carried in a version, or in none, passes a bound
abbrev pub passes_with : Option Parts → Option VersionBound → Bool
passes_with version None = true
passes_with None (Some bound) = false
passes_with (Some version) (Some bound) = is_past bound version

-- whether one is within a bound
abbrev pub fits : VersionBound → Carried → Bool
fits bound y = is_past bound (carried_parts y)

-- whether one is within a bound, and stands for the version c
abbrev pub fits_as : VersionBound → ℕ → Carried → Bool
fits_as bound c y = fits bound y && nat_eq y.number c

abbrev pub has_fitting : List Carried → VersionBound → ℕ → Bool
has_fitting ys bound c = list_any (fits_as bound c) ys

-- ---- one carrier of each number

-- how far versions compare on a side
abbrev pub beyond : Side → Ordering
beyond side.Least = order.Less
beyond side.Greatest = order.Greater

-- whether the bounds of an operator are met by all versions that are far enough on a side
abbrev pub reaches : Side → Op → Bool
reaches s op = holds op (beyond s)

-- where x is within such a bound, so is y, which stands for the same version
abbrev pub Covers : Side → Carried → Carried → Type 0
Covers s y x = (bound : VersionBound) (c : ℕ) → reaches s bound.op ≡ true → fits_as bound c x ≡ true → fits_as bound c y ≡ true

-- one list has within such a bound what another one has
abbrev pub Serves : Side → List Carried → List Carried → Type 0
Serves s all kept = (bound : VersionBound) (c : ℕ) → reaches s bound.op ≡ true → has_fitting kept bound c ≡ has_fitting all bound c

-- whether the last one that was seen, if any, is within a bound, and stands for the version c
abbrev pub last_fits : VersionBound → ℕ → Option Carried → Bool
last_fits bound c None = false
last_fits bound c (Some y) = fits_as bound c y

-- a list, or where it is empty another one
abbrev pub either : List Carried → List Carried → List Carried
either [] ys = ys
either (x ∷ xs) ys = x ∷ xs

-- a part of those of a crowd that serves one side, or none where all are needed
pub record IsSide (s : Side) (all kept : List Carried) : Type 0 where
  pub sorted : IsSorted carried_order kept
  pub serves : Serves s all (either kept all)
