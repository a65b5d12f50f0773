-- The first fields of a paragraph, kept as they stand in the text.
use Rattle.std.specs.Prelude.{◌≡◌, ◌≤◌, List, length, map, take}
use Rattle.control_file.specs.Text.{FieldText}
use Rattle.control_file.specs.Raw.{raw_text}
use Rattle.control_file.specs.declared.raw.FrontFields.{FrontFields}

-- the fields of a paragraph are kept, unless there are more than 24
abbrev pub Keeps : FrontFields → List FieldText → Type 0
Keeps front fields = length fields ≤ 24 → map raw_text (take (length fields) front.items) ≡ fields
