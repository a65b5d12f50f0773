use Rattle.std.proofs.Common.{◌≡◌, ◌<◌, length, drop, ap, sym, ◌∙◌, arith}
use Rattle.control_file.specs.Text.{ParagraphText, fields_of, lines_from}
use Rattle.control_file.specs.Fields.{field_text}
use Rattle.control_file.proofs.FieldsInOrder.{skips_fields, bytes_left, some_left, drop_next, get_front}
use Rattle.control_file.proofs.Paragraph.at.Goals as goal

pub loop-init : goal.loop-init
loop-init c =
    let left = c.skip_continued-left.result in
    let skipped = c.skip_continued-left.ensures in
    record {
      fields = ap (λ (p : ParagraphText). p.fields) (sym c.self.view_is) ∙ skips_fields c.self.inside.line c.self.inside.text.now left.line left.text.now skipped;
      begins = skipped.stops;
      bound = skipped.passed.bound;
    }

pub first_field-requires-clause-some : goal.first_field-requires-clause-some
first_field-requires-clause-some c =
    let left = c.loop.left in
    let within : c.loop.counter < length c.args.self.now.fields = omega (arith, c.requires, c.loop-test.true) in
    bytes_left left.line left.text.now (some_left c.args.self.now.fields c.loop.counter _ c.loop.invariant.fields within)

pub loop-preserved : goal.loop-preserved
loop-preserved c =
    let taken = c.first_field.ensures in
    let next = c.first_field.result.1 in
    record {
      fields = drop_next c.args.self.now.fields c.loop.counter (field_text c.first_field.result.0) (fields_of (lines_from next.line next.text.now)) (c.loop.invariant.fields ∙ taken.fields);
      begins = taken.begins;
      bound = taken.bound;
    }

pub first_field-requires-2-clause-some : goal.first_field-requires-2-clause-some
first_field-requires-2-clause-some c =
    let left = c.loop.left in
    let within : c.loop.counter < length c.args.self.now.fields = omega (arith, c.requires) in
    bytes_left left.line left.text.now (some_left c.args.self.now.fields c.loop.counter _ c.loop.invariant.fields within)

pub returns : goal.returns
returns c =
    let taken = c.first_field-2.ensures in
    let next = c.first_field-2.result.1 in
    let here : c.args.place ≡ c.loop.counter = omega arith in
    get_front c.args.self.now.fields c.args.place (field_text c.first_field-2.result.0) (fields_of (lines_from next.line next.text.now)) (ap (λ k. drop k c.args.self.now.fields) here ∙ c.loop.invariant.fields ∙ taken.fields)
