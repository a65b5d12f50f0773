use Rattle.std.proofs.Common.{ℕ, List, length, IsTrue}
use Rattle.std.specs.List.{list_all}
use Rattle.control_file.specs.Text.{is_blank}
use Rattle.control_file.specs.Passes.{Passed}
use Rattle.control_file.proofs.skip_blank.Given as goal

-- blank lines were passed
abbrev pub invariant-loop-first : goal.invariant-loop-first
invariant-loop-first l = (lines : List (List ℕ)) × Passed l.line l.text l.number l.rest lines × IsTrue (list_all is_blank lines)

abbrev pub decreases-loop-first : goal.decreases-loop-first
decreases-loop-first l = length l.rest
