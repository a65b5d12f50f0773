-- What is listed of a file: its stanzas that count; and how one paragraph more changes a list.
use Rattle.std.specs.Prelude.{◌≡◌, ◌⊎◌, ℕ, List, [], ◌∷◌, ◌++◌, Option, None, Some, Result, Ok, Err, option_map}
use Rattle.std.specs.List.{filter}
use Rattle.std.specs.Result.{result_err}
use Rattle.control_file.specs.Text.{ParagraphText, Reading}
use Rattle.universe_model.specs.Faults.{control_end, stanza_end}
use Rattle.universe_model.specs.Reading.{ReadStanza, Reader, is_counted, stanzas_in, text_fault}
use Rattle.universe_model.specs.declared.FileKind.{FileKind}
use Rattle.universe_model.specs.declared.BuildEnd.{BuildEnd}
use Rattle.universe_model.specs.declared.BuildEnd.TheVariants.{NoMemory}

-- The file has no fault, and these are its stanzas that count, in order.
pub record IsStanzaList (file : FileKind) (read : Reader) (native : List ℕ) (text : Reading) (list : List ReadStanza) : Type 0 where
  pub sound : text_fault file read text ≡ None
  pub counted : list ≡ filter (is_counted native) (stanzas_in read text.paragraphs)

-- what an answer tells of what was to be read before it, and is to be read behind it
abbrev pub NextOf : FileKind → Reading → Reading → Result (Option ParagraphText) BuildEnd → Type 0
NextOf file old new (Ok None) = (old.paragraphs ≡ []) × (old.fault ≡ None)
NextOf file old new (Ok (Some p)) = (old.paragraphs ≡ p ∷ new.paragraphs) × (old.fault ≡ new.fault)
NextOf file old new (Err end) = (old.paragraphs ≡ []) × (option_map (control_end file) old.fault ≡ Some end)

-- The stanza of a paragraph goes to the end of the list, if it counts; or the paragraph is none.
abbrev pub IsTaken : {A : Type 0} → FileKind → Reader → List ℕ → ParagraphText → List ReadStanza → List ReadStanza → Result A BuildEnd → Type 0
IsTaken file read native p old new (Ok done) =
    (result_err (read p) ≡ None) × (new ≡ old ++ filter (is_counted native) (stanzas_in read (p ∷ [])))
IsTaken file read native p old new (Err end) = (end ≡ NoMemory) ⊎ (option_map (stanza_end file) (result_err (read p)) ≡ Some end)
