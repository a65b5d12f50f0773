use Rattle.std.proofs.Common.{◌≡◌, ◌-◌, [], ◌∷◌, ◌++◌, true, false, not, List, length, take, sym, ap, subst, ◌∙◌}
use Rattle.std.proofs.lemmas.Bool.{eqb-true, false≢true}
use Rattle.std.proofs.lemmas.List.{nil_from_length}
use Rattle.control_file.specs.Answers.{is_paragraph_next}
use Rattle.control_file.specs.Kept.{Keeps}
use Rattle.control_file.specs.Raw.{raw_text}
use Rattle.control_file.specs.Text.{FieldText, is_blank, cut, numbered, lines_from, fields_of}
use Rattle.control_file.proofs.FieldsInOrder.{begins_first, fields_more}
use Rattle.control_file.proofs.OneFieldMore.{takes_lines, field_bytes}
use Rattle.control_file.proofs.Readings.{reading_faulty, scans_end, front_is}
use Rattle.control_file.proofs.Runs.{length-fields_of}
use Rattle.control_file.proofs.scan.Goals as goal
use Rattle.control_file.proofs.scan.Goals.{else-loop-first-test, then-loop-first-test+then-is_blank}

pub take_name-requires : goal.take_name-requires
take_name-requires c = λ begins.
    let i = c.loop-first.invariant in
    let line = c.cut_line.ensures in
    let rest = c.loop-first.rest.now in
    let first = c.cut_line.result.0.now in
    let next : is_paragraph_next (cut rest) ≡ true = ap is_paragraph_next line.lines ∙ ap not (sym c.is_blank.ensures ∙ c.if-is_blank.false) in
    i.5 next (begins_first rest first c.cut_line.result.1.now line ∙ begins)

pub returns-in-Err-clause-lines : goal.returns-in-Err-clause-lines
returns-in-Err-clause-lines c =
    let i = c.loop-first.invariant in
    let first = c.cut_line.result.0.now in
    let full : is_blank first ≡ false = sym c.is_blank.ensures ∙ c.if-is_blank.false in
    reading_faulty c.args.line c.args.text.now c.loop-first.number c.loop-first.rest.now i.0 first c.cut_line.result.1.now c.loop-first.names c.in-Err.kind i.1 c.cut_line.ensures i.2 full i.3 i.4 c.in-Err.ensures

pub loop-first-preserved : goal.loop-first-preserved
loop-first-preserved c =
    let i = c.loop-first.invariant in
    let line = c.cut_line.ensures in
    let n = c.args.line in
    let text = c.args.text.now in
    let number = c.loop-first.number in
    let rest = c.loop-first.rest.now in
    let first = c.cut_line.result.0.now in
    let after = c.cut_line.result.1.now in
    let left = c.skip_indented-left.result in
    let s = c.skip_indented-left.ensures in
    let full : is_blank first ≡ false = sym c.is_blank.ensures ∙ c.if-is_blank.false in
    let named = c.loop-first.names in
    let taken = takes_lines n text number rest i.0 first after left.line left.text.now named c.take_name.new.names c.in-Ok.name.now i.1 i.2 i.3 i.4 line full c.in-Ok.ensures s in
    let raw = c.new.result in
    let old : List FieldText = fields_of (numbered n i.0) in
    let place : length old ≡ c.len-place.result = length-fields_of (numbered n i.0) ∙ sym (ap length i.3) ∙ sym c.len-place.ensures.len in
    let more : old ++ raw_text raw ∷ [] ≡ fields_of (numbered n (i.0 ++ first ∷ s.lines)) = fields_more n i.0 number first s.lines raw i.1.number c.in-Ok.ensures.begins s.continued (c.new.ensures.name ∙ c.in-Ok.ensures.named) (c.new.ensures.text ∙ field_bytes number rest first after left.line left.text.now line s) c.new.ensures.line in (
      i.0 ++ first ∷ s.lines,
      taken.passed,
      taken.full,
      taken.names,
      taken.faultless,
      λ next begins. absurd (false≢true (sym (s.stops next) ∙ begins)),
      subst (Keeps c.keep.new.self) more (c.keep.ensures old place i.6),
    )

pub returns-clause-lines : goal.returns-clause-lines
returns-clause-lines c =
    let i = c.loop-first.invariant in
    let rest = c.loop-first.rest.now in
    let stops : is_paragraph_next (cut rest) ≡ false = elim c.loop-first-test.branch [
      | else-loop-first-test w ↦ ap (λ r. is_paragraph_next (cut r)) (nil_from_length rest (eqb-true _ _ (sym c.is_empty.ensures ∙ w.loop-first-test.false)))
      | then-loop-first-test+then-is_blank w ↦ ap is_paragraph_next w.cut_line.ensures.lines ∙ ap not (sym w.is_blank.ensures ∙ w.if-is_blank.true)
    ] in
    scans_end c.args.line c.args.text.now c.loop-first.number rest i.0 c.loop-first.names i.1 i.2 i.3 i.4 c.requires.next stops

pub returns-clause-front : goal.returns-clause-front
returns-clause-front c =
    let i = c.loop-first.invariant in
    let n = c.args.line in
    let text = c.args.text.now in
    let rest = c.loop-first.rest.now in
    let same : fields_of (numbered n i.0) ≡ fields_of (lines_from n (take (length text - length rest) text)) =
    ap (λ ls. fields_of (numbered n ls)) (sym i.1.front_lines) ∙ ap (λ t. fields_of (lines_from n t)) (sym (front_is n text c.loop-first.number rest i.0 i.1)) in
    subst (Keeps c.loop-first.front) same i.6
