use Rattle.std.proofs.Common.{◌≡◌, ◌+◌, ◌^◌, ◌<◌, false, length}
use Rattle.control_file.specs.Text.{fields_of, lines_from, begins_with_space, field_named}
use Rattle.control_file.proofs.Paragraph.field.Given as goal

-- the field of the name is in what is left
abbrev pub invariant-loop-left : goal.invariant-loop-left
invariant-loop-left l = record {
  named : field_named l.name l.self.fields ≡ field_named l.name (fields_of (lines_from l.left.line l.left.text.now));
  begins : begins_with_space l.left.text.now ≡ false;
  bound : l.left.line + length l.left.text.now < 2 ^ 64;
}

abbrev pub decreases-loop-left : goal.decreases-loop-left
decreases-loop-left l = length l.left.text.now
