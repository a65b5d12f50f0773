-- Laws of the definitions: what stands where in a text, and which line is the first faulty one.
use Rattle.std.specs.Prelude.{◌≡◌, ℕ, ◌<◌, ◌≤◌, Bool, false, not, List, [], ◌∷◌, ◌++◌, length, slice_range, None, Some, MatchOption, IsTrue}
use Rattle.std.specs.List.{list_all}
use Rattle.control_file.specs.declared.CtlFault.{CtlFault}
use Rattle.control_file.specs.Text.{Line, FieldText, ParagraphText, is_blank_line, fault_of, first_fault}

-- a part of a text, by the places between which it stands
pub record IsPart (whole part : List ℕ) : Type 0 where
  pub from : ℕ
  pub to : ℕ
  pub order : from ≤ to
  pub within : to ≤ length whole
  pub bytes : part ≡ slice_range whole from to

-- the names and values of fields are parts of a text
abbrev pub FieldsStandIn : List ℕ → List FieldText → Type 0
FieldsStandIn text [] = Unit {0}
FieldsStandIn text (f ∷ fs) = IsPart text f.name × IsPart text f.value × FieldsStandIn text fs

-- the texts of paragraphs are parts of a text, and their fields stand in them
abbrev pub ParagraphsStandIn : List ℕ → List ParagraphText → Type 0
ParagraphsStandIn text [] = Unit {0}
ParagraphsStandIn text (p ∷ ps) = IsPart text p.text × FieldsStandIn p.text p.fields × ParagraphsStandIn text ps

-- no line of a paragraph has a fault
abbrev pub HasNoFault : List Line → Type 0
HasNoFault ls = (before : List Line) (line : Line) (after : List Line) → ls ≡ before ++ line ∷ after → fault_of before line ≡ None

-- a fault is that of a line, and no line before it has one
pub record IsFirstFaulty (ls : List Line) (fault : CtlFault) : Type 0 where
  pub before : List Line
  pub at : Line
  pub after : List Line
  pub lines : ls ≡ before ++ at ∷ after
  pub number : fault.line ≡ at.number
  pub kind : fault_of before at ≡ Some fault.kind
  pub none : HasNoFault before

-- the fault of a paragraph is its first line's that has one
abbrev pub FirstFaultIsFirst : List Line → Type 0
FirstFaultIsFirst ls = MatchOption (first_fault ls) (HasNoFault ls) (λ fault. IsFirstFaulty ls fault)

-- whether lines begin with one that is not blank
abbrev pub is_run_next : List Line → Bool
is_run_next [] = false
is_run_next (l ∷ ls) = not (is_blank_line l)

-- lines are, in order, blank lines and runs: a run has lines, none of them is blank, and behind it the lines end or a blank one comes
abbrev pub AreRunsOf : List (List Line) → List Line → Type 0
AreRunsOf [] ls = IsTrue (list_all is_blank_line ls)
AreRunsOf (p ∷ ps) ls =
    (blank : List Line) × (rest : List Line) × (ls ≡ blank ++ (p ++ rest)) × IsTrue (list_all is_blank_line blank) × (0 < length p) × IsTrue (list_all (λ l. not (is_blank_line l)) p) × (is_run_next rest ≡ false) × AreRunsOf ps rest
