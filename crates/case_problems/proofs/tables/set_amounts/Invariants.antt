use Rattle.std.proofs.Common.{◌≡◌}
use Rattle.case_problems.proofs.tables.set_amounts.Given as goal

abbrev pub invariant-loop-pair : goal.invariant-loop-pair
invariant-loop-pair l = l.table.choices ≡ l.fn.table.choices
