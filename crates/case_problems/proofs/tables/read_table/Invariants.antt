use Rattle.std.proofs.Common.{◌≡◌}
use Rattle.case_problems.proofs.tables.read_table.Given as goal

abbrev pub invariant-loop-line : goal.invariant-loop-line
invariant-loop-line l = l.table.choices ≡ l.choices
