use Rattle.std.proofs.Common.{◌≡◌, ◌++◌}
use Rattle.hint_file.specs.Hinting.{first_fault, hints_of, lines_of}
use Rattle.hint_file.proofs.hints.Hints.read.Given as goal

-- what was read so far and what is still to come are all, and no line so far is faulty
abbrev pub invariant-loop-line : goal.invariant-loop-line
invariant-loop-line l = record {
  faultless : first_fault l.universe l.line-iterator ≡ first_fault l.universe (lines_of l.text);
  hints : l.hints ++ hints_of l.universe l.line-iterator ≡ hints_of l.universe (lines_of l.text);
}
