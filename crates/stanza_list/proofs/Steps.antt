-- One paragraph more: its stanza, or its fault.
use Rattle.std.proofs.Common.{◌≡◌, ◌⊎◌, inl, inr, ℕ, List, [], ◌∷◌, ◌++◌, Option, None, Some, Ok, option_map, refl, sym, ap, ◌∙◌}
use Rattle.std.proofs.lemmas.List.{append_assoc}
use Rattle.std.proofs.lemmas.List.Elements.{filter-append}
use Rattle.std.specs.List.{filter}
use Rattle.std.specs.Option.{option_or}
use Rattle.std.specs.Result.{result_err, result_ok}
use Rattle.control_file.specs.Text.{ParagraphText, Reading}
use Rattle.stanza.specs.declared.StanzaFault.{StanzaFault}
use Rattle.universe_model.specs.Faults.{control_end, stanza_end}
use Rattle.universe_model.specs.Reading.{ReadStanza, Reader, beside, is_counted, stanzas_in, first_stanza_fault, text_fault}
use Rattle.universe_model.specs.declared.FileKind.{FileKind}
use Rattle.universe_model.specs.declared.BuildEnd.{BuildEnd}
use Rattle.stanza_list.specs.StanzaLists.{NextOf}

-- the stanzas of one more paragraph
cons-cases : (read : Reader) (p : ParagraphText) (ps : List ParagraphText) (o : Option ReadStanza) → option_map (beside p) (result_ok (read p)) ≡ o
    → stanzas_in read (p ∷ ps) ≡ stanzas_in read (p ∷ []) ++ stanzas_in read ps
cons-cases read p ps None is = rw is refl
cons-cases read p ps (Some s) is = rw is refl

pub counted-step : (read : Reader) (native : List ℕ) (p : ParagraphText) (old ps : List ParagraphText) (before after whole : List ReadStanza)
    → old ≡ p ∷ ps
    → before ++ filter (is_counted native) (stanzas_in read old) ≡ whole
    → after ≡ before ++ filter (is_counted native) (stanzas_in read (p ∷ []))
    → after ++ filter (is_counted native) (stanzas_in read ps) ≡ whole
counted-step read native p old ps before after whole first so_far taken =
    ap (λ xs. xs ++ filter (is_counted native) (stanzas_in read ps)) taken
    ∙ append_assoc before (filter (is_counted native) (stanzas_in read (p ∷ []))) (filter (is_counted native) (stanzas_in read ps))
    ∙ ap (λ xs. before ++ xs) (sym (filter-append (is_counted native) (stanzas_in read (p ∷ [])) (stanzas_in read ps)))
    ∙ ap (λ xs. before ++ filter (is_counted native) xs) (sym (cons-cases read p ps (option_map (beside p) (result_ok (read p))) refl))
    ∙ ap (λ qs. before ++ filter (is_counted native) (stanzas_in read qs)) (sym first)
    ∙ so_far

-- the fault of a text whose first paragraph has none
pub fault-step : (file : FileKind) (read : Reader) (p : ParagraphText) (old new : Reading) (whole : Option BuildEnd)
    → old.paragraphs ≡ p ∷ new.paragraphs → old.fault ≡ new.fault → result_err (read p) ≡ None
    → text_fault file read old ≡ whole → text_fault file read new ≡ whole
fault-step file read p old new whole first same sound is =
    sym (ap (λ qs. option_or (option_map (stanza_end file) (first_stanza_fault read qs)) (option_map (control_end file) old.fault)) first
    ∙ ap (λ fault. option_or (option_map (stanza_end file) (option_or fault (first_stanza_fault read new.paragraphs))) (option_map (control_end file) old.fault)) sound
    ∙ ap (λ fault. option_or (option_map (stanza_end file) (first_stanza_fault read new.paragraphs)) (option_map (control_end file) fault)) same)
    ∙ is

-- the fault of a text whose first paragraph has one
found-cases : (file : FileKind) (fault : Option StanzaFault) (rest : Option StanzaFault) (other : Option BuildEnd) (end : BuildEnd)
    → option_map (stanza_end file) fault ≡ Some end
    → option_or (option_map (stanza_end file) (option_or fault rest)) other ≡ Some end
found-cases file None rest other end is = absurd (cc)
found-cases file (Some fault) rest other end is = is

pub fault-found : (file : FileKind) (read : Reader) (p : ParagraphText) (old : Reading) (ps : List ParagraphText) (whole : Option BuildEnd) (end : BuildEnd)
    → old.paragraphs ≡ p ∷ ps → option_map (stanza_end file) (result_err (read p)) ≡ Some end
    → text_fault file read old ≡ whole → whole ≡ Some end
fault-found file read p old ps whole end first fault is =
    sym is
    ∙ ap (λ qs. option_or (option_map (stanza_end file) (first_stanza_fault read qs)) (option_map (control_end file) old.fault)) first
    ∙ found-cases file (result_err (read p)) (first_stanza_fault read ps) (option_map (control_end file) old.fault) end fault

pub end-found : (file : FileKind) (read : Reader) (p : ParagraphText) (old : Reading) (ps : List ParagraphText) (whole : Option BuildEnd) (end want : BuildEnd)
    → old.paragraphs ≡ p ∷ ps → text_fault file read old ≡ whole
    → (end ≡ want) ⊎ (option_map (stanza_end file) (result_err (read p)) ≡ Some end)
    → (end ≡ want) ⊎ (whole ≡ Some end)
end-found file read p old ps whole end want first is (inl e) = inl e
end-found file read p old ps whole end want first is (inr e) = inr (fault-found file read p old ps whole end first e is)

-- what a paragraph that is answered tells
pub next-some : (file : FileKind) (old new : Reading) (r : Option ParagraphText) (p : ParagraphText) → r ≡ Some p → NextOf file old new (Ok r)
    → (old.paragraphs ≡ p ∷ new.paragraphs) × (old.fault ≡ new.fault)
next-some file old new r p is next = rw is at next
