-- A field as it stands in the text, as its bytes.
use Rattle.std.specs.Prelude.{◌+◌, drop, length}
use Rattle.control_file.specs.Text.{FieldText, trimmed, without_line_end}
use Rattle.control_file.specs.declared.raw.RawField.{RawField}

abbrev pub raw_text : RawField → FieldText
raw_text raw = record {
  name = raw.name.now;
  value = trimmed (drop (length raw.name.now + 1) (without_line_end raw.text.now));
  line = raw.line;
}
