-- What a reader of a control file answers, and what it leaves.
use Rattle.std.specs.Prelude.{◌≡◌, ℕ, ◌+◌, Bool, false, not, List, [], ◌∷◌, ◌++◌, length, Option, None, Some, Result, Ok, Err, IsTrue}
use Rattle.std.specs.List.{list_all}
use Rattle.control_file.specs.declared.CtlFault.{CtlFault}
use Rattle.control_file.specs.Text.{ParagraphText, Reading, Rest, is_blank, cut}

-- the first paragraph, or the fault, or nothing
abbrev pub first_answer : List ParagraphText → Option CtlFault → Result (Option ParagraphText) CtlFault
first_answer [] None = Ok None
first_answer [] (Some fault) = Err fault
first_answer (p ∷ ps) fault = Ok (Some p)

abbrev pub answer_of : Reading → Result (Option ParagraphText) CtlFault
answer_of reading = first_answer reading.paragraphs reading.fault

-- what is read behind the first paragraph; a fault stays
abbrev pub without_first : List ParagraphText → List ParagraphText
without_first [] = []
without_first (p ∷ ps) = ps

abbrev pub behind_first : Reading → Reading
behind_first reading = record { paragraphs = without_first reading.paragraphs; fault = reading.fault }

-- what an answer tells of what was to be read before it, and what is to be read behind it
abbrev pub Reads : Result (Option ParagraphText) CtlFault → Reading → Reading → Type 0
Reads (Ok None) old new = (old.paragraphs ≡ []) × (old.fault ≡ None) × (new ≡ old)
Reads (Ok (Some p)) old new = (old.paragraphs ≡ p ∷ new.paragraphs) × (old.fault ≡ new.fault)
Reads (Err fault) old new = (old.paragraphs ≡ []) × (old.fault ≡ Some fault) × (new ≡ old)

-- the text of the paragraph that was answered
abbrev pub answered_text : Result (Option ParagraphText) CtlFault → List ℕ
answered_text (Ok None) = []
answered_text (Ok (Some p)) = p.text
answered_text (Err fault) = []

-- whether lines begin with one that is not blank
abbrev pub is_paragraph_next : List (List ℕ) → Bool
is_paragraph_next [] = false
is_paragraph_next (l ∷ ls) = not (is_blank l)

-- at the end nothing is left; behind a fault stands the faulty paragraph
abbrev pub StopsAt : Result (Option ParagraphText) CtlFault → List ℕ → Type 0
StopsAt (Ok None) rest = rest ≡ []
StopsAt (Ok (Some p)) rest = Unit {0}
StopsAt (Err fault) rest = IsTrue (is_paragraph_next (cut rest))

-- the text before an answer is blank lines, the text of the answer, and the text behind it
pub record Leaves (old : Rest) (answer : Result (Option ParagraphText) CtlFault) (new : Rest) : Type 0 where
  pub blank : List ℕ
  pub are_blank : IsTrue (list_all is_blank (cut blank))
  pub text : old.text ≡ blank ++ (answered_text answer ++ new.text)
  pub line : new.line ≡ old.line + length (cut (blank ++ answered_text answer))
  pub stops : StopsAt answer new.text
