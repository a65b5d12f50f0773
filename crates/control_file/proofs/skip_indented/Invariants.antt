use Rattle.std.proofs.Common.{ℕ, List, not, length, IsTrue}
use Rattle.std.specs.List.{list_all}
use Rattle.control_file.specs.Text.{is_blank, begins_with_space}
use Rattle.control_file.specs.Passes.{Passed}
use Rattle.control_file.proofs.skip_indented.Given as goal

-- lines that begin with a space or a tab and are not blank were passed
abbrev pub invariant-loop-first : goal.invariant-loop-first
invariant-loop-first l = (lines : List (List ℕ)) × Passed l.line l.text l.number l.rest lines × IsTrue (list_all (λ line. not (is_blank line)) lines) × IsTrue (list_all begins_with_space lines)

abbrev pub decreases-loop-first : goal.decreases-loop-first
decreases-loop-first l = length l.rest
