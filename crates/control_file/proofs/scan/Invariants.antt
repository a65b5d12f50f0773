use Rattle.std.proofs.Common.{◌≡◌, ℕ, List, [], true, not, length, IsTrue}
use Rattle.std.specs.List.{list_all}
use Rattle.control_file.specs.Answers.{is_paragraph_next}
use Rattle.control_file.specs.Kept.{Keeps}
use Rattle.control_file.specs.Text.{is_blank, begins_with_space, cut, names_of, numbered, fields_of}
use Rattle.control_file.specs.Passes.{Passed}
use Rattle.control_file.proofs.Runs.{Faultless}
use Rattle.control_file.proofs.scan.Given as goal

-- whole fields of the paragraph were passed, and they have no fault
abbrev pub invariant-loop-first : goal.invariant-loop-first
invariant-loop-first l =
    (lines : List (List ℕ)) × Passed l.line l.text l.number l.rest lines × IsTrue (list_all (λ line. not (is_blank line)) lines) × (l.names ≡ names_of (numbered l.line lines)) × Faultless l.line lines
    × (IsTrue (is_paragraph_next (cut l.rest)) → begins_with_space l.rest ≡ true → l.names ≡ []) × Keeps l.front (fields_of (numbered l.line lines))

abbrev pub decreases-loop-first : goal.decreases-loop-first
decreases-loop-first l = length l.rest
