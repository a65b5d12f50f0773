use Rattle.std.proofs.Common.{◌≡◌, ◌<◌, ◌-◌, length, length-append, take, sym, ap, subst, ◌∙◌, arith, Option, None, Some, Result, Ok, Err}
use Rattle.std.proofs.lemmas.Bool.{eqb-true}
use Rattle.control_file.specs.declared.CtlFault.{CtlFault}
use Rattle.control_file.specs.Text.{ParagraphText, Rest, reading_of}
use Rattle.control_file.specs.Answers.{answer_of, behind_first, Leaves}
use Rattle.control_file.specs.Passes.{at_line}
use Rattle.control_file.proofs.Bytes.{some_length}
use Rattle.control_file.proofs.Readings.{answered_none, answered_some, answered_fault, some_taken, reads_answer, paragraph_fits, paragraph_at}
use Rattle.control_file.proofs.Paragraphs.next.Goals as goal

pub returns-then-is_empty : goal.returns-then-is_empty
returns-then-is_empty c =
    let start = c.skip_blank-start.result in
    let inside = c.self.inside in
    let answered = answered_none inside.line inside.rest.now start.line start.text.now c.skip_blank-start.ensures (eqb-true _ _ (sym c.is_empty.ensures ∙ c.if-is_empty.true)) in
    let new = at_line start.text.now start.line in
    let none : Result (Option ParagraphText) CtlFault = Ok None in
    let answer = answered.answer ∙ ap (λ (r : Rest). answer_of (reading_of r)) c.self.view_is in
    let behind = answered.behind ∙ ap (λ (r : Rest). behind_first (reading_of r)) c.self.view_is in
    record {
      answer = answer;
      behind = behind;
      reads = reads_answer none (reading_of c.args.self.now) (reading_of new) answer behind;
      leaves = let P : Rest → Type 0 = λ r. Leaves r none new in subst P c.self.view_is answered.leaves;
      shorter = tt;
    }

pub invariant_of-result : goal.invariant_of-result
invariant_of-result c =
    let start = c.skip_blank-start.result in
    let left = c.in-Ok.left in
    let fits = paragraph_fits start.line start.text.now left.line left.text.now c.scan.new.names c.in-Ok.ensures.lines c.skip_blank-start.ensures.passed.bound in
    (c.len.ensures.len ∙ fits.0, omega (arith, c.len.ensures.len, c.in-Ok.ensures.lines.named_some), c.len.ensures.most, fits.1, c.in-Ok.ensures.front)

pub returns-in-Ok : goal.returns-in-Ok
returns-in-Ok c =
    let start = c.skip_blank-start.result in
    let inside = c.self.inside in
    let left = c.in-Ok.left in
    let some : 0 < length start.text.now = some_length _ c.is_empty.result c.is_empty.ensures c.if-is_empty.false in
    let answered = answered_some inside.line inside.rest.now start.line start.text.now left.line left.text.now c.scan.new.names c.skip_blank-start.ensures some c.in-Ok.ensures.lines in
    let new = at_line left.text.now left.line in
    let view : length inside.rest.now ≡ length c.args.self.now.text = ap (λ (r : Rest). length r.text) c.self.view_is in
    let result : Result (Option ParagraphText) CtlFault = Ok (Some (paragraph_at start.line (take (length start.text.now - length left.text.now) start.text.now))) in
    let answer = answered.answer ∙ ap (λ (r : Rest). answer_of (reading_of r)) c.self.view_is in
    let behind = answered.behind ∙ ap (λ (r : Rest). behind_first (reading_of r)) c.self.view_is in
    record {
      answer = answer;
      behind = behind;
      reads = reads_answer result (reading_of c.args.self.now) (reading_of new) answer behind;
      leaves = let P : Rest → Type 0 = λ r. Leaves r result new in subst P c.self.view_is answered.leaves;
      shorter = omega (arith, some_taken start.line start.text.now left.line left.text.now c.scan.new.names c.in-Ok.ensures.lines, ap length c.skip_blank-start.ensures.passed.text, length-append c.skip_blank-start.ensures.passed.front start.text.now, view);
    }

pub returns-in-Err : goal.returns-in-Err
returns-in-Err c =
    let start = c.skip_blank-start.result in
    let inside = c.self.inside in
    let some : 0 < length start.text.now = some_length _ c.is_empty.result c.is_empty.ensures c.if-is_empty.false in
    let answered = answered_fault inside.line inside.rest.now start.line start.text.now c.in-Err.fault c.skip_blank-start.ensures some c.in-Err.ensures.lines in
    let new = at_line start.text.now start.line in
    let result : Result (Option ParagraphText) CtlFault = Err c.in-Err.fault in
    let answer = answered.answer ∙ ap (λ (r : Rest). answer_of (reading_of r)) c.self.view_is in
    let behind = answered.behind ∙ ap (λ (r : Rest). behind_first (reading_of r)) c.self.view_is in
    record {
      answer = answer;
      behind = behind;
      reads = reads_answer result (reading_of c.args.self.now) (reading_of new) answer behind;
      leaves = let P : Rest → Type 0 = λ r. Leaves r result new in subst P c.self.view_is answered.leaves;
      shorter = tt;
    }
