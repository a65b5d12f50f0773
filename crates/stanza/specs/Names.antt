-- The names of the fields that a stanza is read from.
use Rattle.std.specs.Prelude.{ℕ, Bool, ◌&&◌, List, [], ◌∷◌, Option, Some, None, codes, length, nat_eq, slice_index}
use Rattle.std.specs.List.{filter}
use Rattle.std.specs.Char.{to_ascii_lowercase}
use Rattle.std.specs.Str.{str_eq_ignore_ascii_case}
use Rattle.stanza.specs.declared.names.FieldName.{FieldName}
use Rattle.stanza.specs.declared.names.FieldName.TheVariants.{Package, Status, Version, Architecture, Essential, PreDepends, Depends, Recommends, Conflicts, Breaks, Provides}

-- how a name is written
abbrev pub spelling : FieldName → List ℕ
spelling Package = codes "Package"
spelling Status = codes "Status"
spelling Version = codes "Version"
spelling Architecture = codes "Architecture"
spelling Essential = codes "Essential"
spelling PreDepends = codes "Pre-Depends"
spelling Depends = codes "Depends"
spelling Recommends = codes "Recommends"
spelling Conflicts = codes "Conflicts"
spelling Breaks = codes "Breaks"
spelling Provides = codes "Provides"

-- whether a text is a name, without regard to ASCII case
abbrev pub spells : List ℕ → FieldName → Bool
spells text field = str_eq_ignore_ascii_case text (spelling field)

-- the fourth byte of a name in lower case, and 0 where there is none
abbrev pub letter_of : List ℕ → ℕ
letter_of text = to_ascii_lowercase (slice_index text 3)

abbrev pub all_names : List FieldName
all_names = Package ∷ Status ∷ Version ∷ Architecture ∷ Essential ∷ PreDepends ∷ Depends ∷ Recommends ∷ Conflicts ∷ Breaks ∷ Provides ∷ []

-- those whose names have so many bytes and this fourth letter
abbrev pub told_by : ℕ → ℕ → List FieldName
told_by len letter = filter (λ field. nat_eq (length (spelling field)) len && nat_eq (letter_of (spelling field)) letter) all_names

abbrev pub only : Option FieldName → List FieldName
only None = []
only (Some field) = field ∷ []

-- its place among them
abbrev pub number : FieldName → ℕ
number Package = 0
number Status = 1
number Version = 2
number Architecture = 3
number Essential = 4
number PreDepends = 5
number Depends = 6
number Recommends = 7
number Conflicts = 8
number Breaks = 9
number Provides = 10
