use Rattle.std.proofs.Common.{IsTrue, take}
use Rattle.promotions.specs.Deriving.{fit_table}
use Rattle.search_tests.proofs.learning.are_fitting.Given as goal

abbrev pub invariant-loop-line : goal.invariant-loop-line
invariant-loop-line l = IsTrue (fit_table l.table (take l.line-index l.lines))
