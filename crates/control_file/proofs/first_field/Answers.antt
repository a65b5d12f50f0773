use Rattle.std.proofs.Common.{sym, subst}
use Rattle.control_file.specs.Text.{FieldText}
use Rattle.control_file.specs.Passes.{TakesField}
use Rattle.control_file.proofs.first_field.Goals as goal

pub returns : goal.returns
returns c =
    let left = c.first_raw.result.1 in
    let P : FieldText → Type 0 = λ field. TakesField c.args.line c.args.text.now field left.line left.text.now in
    subst P (sym c.field.ensures) c.first_raw.ensures
