-- The fields of a stanza that are read, by name without regard to ASCII case.
use Rattle.std.specs.Prelude.{ℕ, List, [], Option, Some, None, option_map}
use Rattle.control_file.specs.Text.{FieldText, ParagraphText, field_named}

-- the field of a name, if the paragraph has it
abbrev pub field_in : ParagraphText → List ℕ → Option FieldText
field_in p name = field_named name p.fields

abbrev pub value_in : ParagraphText → List ℕ → Option (List ℕ)
value_in p name = option_map (λ (field : FieldText). field.value) (field_in p name)

-- its value, and no bytes where there is none
abbrev pub value_or_nothing : Option (List ℕ) → List ℕ
value_or_nothing None = []
value_or_nothing (Some value) = value

abbrev pub text_in : ParagraphText → List ℕ → List ℕ
text_in p name = value_or_nothing (value_in p name)
