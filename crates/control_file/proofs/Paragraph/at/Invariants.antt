use Rattle.std.proofs.Common.{◌≡◌, ◌+◌, ◌^◌, ◌<◌, false, length, drop}
use Rattle.control_file.specs.Text.{fields_of, lines_from, begins_with_space}
use Rattle.control_file.proofs.Paragraph.at.Given as goal

-- the fields from the counter on stand in what is left
abbrev pub invariant-loop : goal.invariant-loop
invariant-loop l = record {
  fields : drop l.counter l.self.fields ≡ fields_of (lines_from l.left.line l.left.text.now);
  begins : begins_with_space l.left.text.now ≡ false;
  bound : l.left.line + length l.left.text.now < 2 ^ 64;
}
