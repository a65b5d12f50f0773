-- The names that a shelf was asked for, as they are kept.
use Rattle.std.specs.Prelude.{ℕ, List, [], ◌∷◌, ◌++◌, map, string_bytes, if◌then◌else◌}
use Rattle.std.specs.Option.{is_some}
use Rattle.std.specs.Str.{bytes_eq}
use Rattle.apt_base.specs.Faults.{ByName, at_name, raised}
use Rattle.apt_base.specs.declared.asked.Entry.{Entry}

-- a name and its count
abbrev pub pair_of : Entry → List ℕ × ℕ
pair_of entry = (string_bytes entry.name, entry.faults)

abbrev pub counts_of : List Entry → ByName ℕ
counts_of entries = map pair_of entries

-- the names asked, with this one
abbrev pub with_name : ByName ℕ → List ℕ → ByName ℕ
with_name asked name = if is_some (at_name asked name) then asked else asked ++ (name, 0) ∷ []

-- the names asked, with the count of this one raised
abbrev pub with_fault : ByName ℕ → List ℕ → ByName ℕ
with_fault [] name = []
with_fault (entry ∷ asked) name = if bytes_eq name entry.0 then (entry.0, raised entry.1) ∷ asked else entry ∷ with_fault asked name
