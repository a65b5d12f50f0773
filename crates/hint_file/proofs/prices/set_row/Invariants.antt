use Rattle.std.proofs.Common.{◌≡◌, ◌++◌, ◌-◌, take, replicate}
use Rattle.hint_file.specs.Rows.{with_row}
use Rattle.hint_file.proofs.prices.set_row.Given as goal

-- the choices so far have their amounts, and the others have 0
abbrev pub invariant-loop-choice : goal.invariant-loop-choice
invariant-loop-choice l = l.table ≡ with_row l.initial.table l.level (take l.choice l.row ++ replicate (l.initial.table.choices - l.choice) 0)
