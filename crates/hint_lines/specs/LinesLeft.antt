-- Lines as they are lent.
use Rattle.std.specs.Prelude.{ℕ, List}
use Rattle.control_file.specs.Text.{Line as LineText}
use Rattle.hint_lines.specs.declared.lines.Line.{Line}

abbrev pub line_text : Line → LineText
line_text l = record { number = l.number; bytes = l.bytes.now }
