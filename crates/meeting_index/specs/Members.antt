-- Carriers with a version, and the carriers that they are.
use Rattle.std.specs.Prelude.{ℕ, List, true, ◌≡◌, false, Option, Some, None}
use Rattle.std.specs.List.{Contains, slice_get}
use Rattle.lists.specs.Sets.{has}
use Rattle.dep_fields.specs.Relationships.{VersionBound}
use Rattle.meeting_index.specs.Carriers.{Carrier}
use Rattle.meeting_index.specs.Fitting.{fits}
use Rattle.meeting_index.specs.declared.carried.Carried.{Carried}

-- a carrier stands for the same version, and passes the same bounds
pub record IsOf (carrier : Carrier) (y : Carried) : Type 0 where
  pub number : carrier.version ≡ y.number
  pub passes : (bound : VersionBound) → carrier.passes (Some bound) ≡ fits bound y

-- a carrier that is there, with its version; without one it passes no bound
abbrev pub IsFound : Option Carrier → Option Carried → Type 0
IsFound None None = Unit {0}
IsFound None (Some y) = ⊥
IsFound (Some carrier) None = (bound : VersionBound) → carrier.passes (Some bound) ≡ false
IsFound (Some carrier) (Some y) = IsOf carrier y

-- one of the carriers with these numbers
pub record IsReal (carriers : List Carrier) (numbers : List ℕ) (y : Carried) : Type 0 where
  pub among : has numbers y.carrier ≡ true
  pub carrier : Carrier
  pub is : slice_get carriers y.carrier ≡ Some carrier
  pub stands : IsOf carrier y

abbrev pub AreReal : List Carrier → List ℕ → List Carried → Type 0
AreReal carriers numbers ys = (y : Carried) → Contains ys y → IsReal carriers numbers y
