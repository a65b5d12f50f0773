-- Carriers that stand for the packages of their versions.
use Rattle.std.specs.Prelude.{ℕ, List, map, Option, Some, None}
use Rattle.std.specs.List.{slice_get}
use Rattle.universe_model.specs.Versions.{Version}
use Rattle.meeting_index.specs.Carriers.{Carrier}
use Rattle.meeting_index.specs.declared.found.Sought.{Sought}
use Rattle.meeting_index.specs.declared.found.Sought.TheVariants as sought

-- the package of a version, and 0 where there is none
abbrev pub package_in : Option Version → ℕ
package_in None = 0
package_in (Some v) = v.package_number

-- the package of the version with a number
abbrev pub owner_of : List Version → ℕ → ℕ
owner_of vs number = package_in (slice_get vs number)

-- a carrier for the package of its version
abbrev pub for_package : List Version → Carrier → Carrier
for_package vs carrier = record { version = owner_of vs carrier.version; name = carrier.name; passes = carrier.passes }

-- what the version with a number is sought as
abbrev pub sought_as : Sought → List Version → ℕ → ℕ
sought_as sought.Versions vs number = number
sought_as sought.Packages vs number = owner_of vs number

-- the carriers for what is sought
abbrev pub carriers_for : Sought → List Version → List Carrier → List Carrier
carriers_for sought.Versions vs carriers = carriers
carriers_for sought.Packages vs carriers = map (for_package vs) carriers
