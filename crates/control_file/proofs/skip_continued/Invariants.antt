use Rattle.std.proofs.Common.{ℕ, List, length, IsTrue}
use Rattle.std.specs.List.{list_all}
use Rattle.control_file.specs.Text.{begins_with_space}
use Rattle.control_file.specs.Passes.{Passed}
use Rattle.control_file.proofs.skip_continued.Given as goal

-- lines that begin with a space or a tab were passed
abbrev pub invariant-loop-rest : goal.invariant-loop-rest
invariant-loop-rest l = (lines : List (List ℕ)) × Passed l.line l.text l.number l.rest lines × IsTrue (list_all begins_with_space lines)

abbrev pub decreases-loop-rest : goal.decreases-loop-rest
decreases-loop-rest l = length l.rest
