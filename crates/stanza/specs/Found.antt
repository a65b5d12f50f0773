-- The first fields of the names that a stanza is read from.
use Rattle.std.specs.Prelude.{ℕ, cond, List, Option, None, Some, map, option_map, slice_index_or}
use Rattle.std.specs.Option.{option_or}
use Rattle.std.specs.Str.{str_eq_ignore_ascii_case}
use Rattle.control_file.specs.Text.{FieldText, ParagraphText}
use Rattle.control_file.specs.Fields.{field_text}
use Rattle.control_file.specs.declared.Field.{Field}
use Rattle.stanza.specs.Fields.{field_in}
use Rattle.stanza.specs.Names.{all_names, number, spelling}
use Rattle.stanza.specs.declared.names.FieldName.{FieldName}
use Rattle.stanza.specs.declared.slots.Slots.{Slots}

-- the field of each name, where a paragraph has one
abbrev pub found_in : ParagraphText → List (Option FieldText)
found_in p = map (λ name. field_in p (spelling name)) all_names

abbrev pub slot_text : Option Field → Option FieldText
slot_text slot = option_map field_text slot

-- those of the program
abbrev pub slot_of : Slots → FieldName → Option FieldText
slot_of slots name = slot_text (slice_index_or slots.fields (number name) None)

abbrev pub found_text : Slots → List (Option FieldText)
found_text slots = map (λ name. slot_of slots name) all_names

-- what is found of a name behind one more field: the first field of the name stays
abbrev pub slot_behind : List ℕ → FieldText → Option FieldText → Option FieldText
slot_behind name field slot = cond (str_eq_ignore_ascii_case field.name name) (option_or slot (Some field)) slot
