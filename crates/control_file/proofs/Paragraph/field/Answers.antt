use Rattle.std.proofs.Common.{ap, sym, ◌∙◌}
use Rattle.control_file.specs.Text.{ParagraphText, field_named}
use Rattle.control_file.proofs.FieldsInOrder.{skips_fields}
use Rattle.control_file.proofs.Paragraph.field.Goals as goal

pub loop-left-init : goal.loop-left-init
loop-left-init c =
    let left = c.skip_continued-left.result in
    let skipped = c.skip_continued-left.ensures in
    record {
      named = ap (λ (p : ParagraphText). field_named c.args.name.now p.fields) (sym c.self.view_is) ∙ ap (field_named c.args.name.now) (skips_fields c.self.inside.line c.self.inside.text.now left.line left.text.now skipped);
      begins = skipped.stops;
      bound = skipped.passed.bound;
    }
