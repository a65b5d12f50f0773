use Rattle.std.proofs.Common.{ap, sym, ◌∙◌}
use Rattle.control_file.specs.Text.{ParagraphText}
use Rattle.control_file.proofs.FieldsInOrder.{skips_fields}
use Rattle.control_file.proofs.Paragraph.raw_fields.Goals as goal

pub returns : goal.returns
returns c =
    let left = c.skip_continued-left.result in
    let inside = c.self.inside in
    c.of_lines.ensures ∙ sym (ap (λ (p : ParagraphText). p.fields) (sym c.self.view_is) ∙ skips_fields inside.line inside.text.now left.line left.text.now c.skip_continued-left.ensures)
