use Rattle.std.proofs.Common.{◌≡◌, length, ap, arith}
use Rattle.control_file.specs.Text.{ParagraphText}
use Rattle.control_file.proofs.FieldsInOrder.{fields_within_text}
use Rattle.control_file.proofs.Paragraph.len.Goals as goal

pub returns-clause-within : goal.returns-clause-within
returns-clause-within c =
    let inside = c.self.inside in
    let view : length inside.text.now ≡ length c.args.self.now.text = ap (λ (p : ParagraphText). length p.text) c.self.view_is in
    omega (arith, c.self.invariant.0, fields_within_text inside.line inside.text.now, view)
