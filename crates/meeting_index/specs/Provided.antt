-- What the carriers of the program are.
use Rattle.std.specs.Prelude.{List, ◌++◌, map}
use Rattle.meeting_index.specs.Carriers.{Carrier, own}
use Rattle.meeting_index.specs.Fitting.{passes_with}
use Rattle.meeting_index.specs.Given.{given_parts}
use Rattle.meeting_index.specs.Owners.{carriers_for}
use Rattle.meeting_index.specs.declared.found.Carriers.{Carriers}
use Rattle.meeting_index.specs.declared.given.Provided.{Provided}
use Rattle.universe_model.specs.Lists.{map_from}
use Rattle.universe_parts.specs.Listed.{version_listed}

abbrev pub carrier_of : Provided → Carrier
carrier_of p = record { version = p.version; name = p.name.now; passes = λ bound. passes_with (given_parts p.given.now) bound }

-- the versions, and then what they provide
abbrev pub listed_for_versions : Carriers → List Carrier
listed_for_versions c = map_from own 0 (map version_listed c.versions.now) ++ map carrier_of c.provided.now

-- the same for what is sought
abbrev pub carriers_listed : Carriers → List Carrier
carriers_listed c = carriers_for c.sought (map version_listed c.versions.now) (listed_for_versions c)
