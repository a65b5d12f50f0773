use Rattle.std.proofs.Common.{◌≡◌, [], ◌∷◌, ◌++◌, true, false, not, sym, ap, ◌∙◌}
use Rattle.control_file.specs.Text.{is_blank, begins_with_space}
use Rattle.control_file.specs.Answers.{is_paragraph_next}
use Rattle.control_file.proofs.Cuts.{passed_more}
use Rattle.control_file.proofs.FieldsInOrder.{begins_first}
use Rattle.lists.proofs.Tests.{list_all-end}
use Rattle.control_file.proofs.skip_indented.Goals as goal
use Rattle.control_file.proofs.skip_indented.Goals.{else-loop-first-test, then-loop-first-test+then-is_blank}

pub loop-first-preserved : goal.loop-first-preserved
loop-first-preserved c =
    let i = c.loop-first.invariant in
    let first = c.cut_line.result.0.now in
    let full : is_blank first ≡ false = sym c.is_blank.ensures ∙ c.if-is_blank.false in
    let begins : begins_with_space first ≡ true = sym (begins_first c.loop-first.rest.now first c.cut_line.result.1.now c.cut_line.ensures) ∙ sym c.begins_with_space.ensures ∙ c.loop-first-test.true in (
      i.0 ++ first ∷ [],
      passed_more c.args.line c.args.text.now c.loop-first.number c.loop-first.rest.now i.0 first c.cut_line.result.1.now i.1 c.cut_line.ensures,
      list_all-end (λ l. not (is_blank l)) i.0 first i.2 (ap not full),
      list_all-end begins_with_space i.0 first i.3 begins,
    )

pub returns : goal.returns
returns c =
    let i = c.loop-first.invariant in
    record {
      lines = i.0;
      passed = i.1;
      full = i.2;
      continued = i.3;
      stops = elim c.loop-first-test.branch [
        | else-loop-first-test w ↦ λ next. sym c.begins_with_space.ensures ∙ w.loop-first-test.false
        | then-loop-first-test+then-is_blank w ↦ λ next. let clash = ap is_paragraph_next w.cut_line.ensures.lines ∙ ap not (sym w.is_blank.ensures ∙ w.if-is_blank.true) in absurd (cc)
      ];
    }
