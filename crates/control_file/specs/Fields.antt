-- A lent field as its bytes.
use Rattle.control_file.specs.declared.Field.{Field}
use Rattle.control_file.specs.Text.{FieldText}

abbrev pub field_text : Field → FieldText
field_text f = record { name = f.name.now; value = f.value.now; line = f.line }
