use Rattle.std.proofs.Common.{ap, ◌∙◌}
use Rattle.std.specs.List.{before_first}
use Rattle.control_file.specs.Text.{is_colon}
use Rattle.control_file.proofs.FieldsInOrder.{takes_field}
use Rattle.control_file.proofs.raw.first_raw.Goals as goal

pub returns : goal.returns
returns c =
    let left = c.skip_continued-left.result in
    let is = c.name_in.ensures ∙ ap (before_first is_colon) c.without_line_end.ensures in
    takes_field c.args.line c.args.text.now c.cut_line.result.0.now c.cut_line.result.1.now left.line left.text.now c.name_in.result.now c.cut_line.ensures c.skip_continued-left.ensures c.requires.begins is
