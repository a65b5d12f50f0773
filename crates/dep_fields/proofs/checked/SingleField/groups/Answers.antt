use Rattle.std.proofs.Common.{ap, ◌∙◌}
use Rattle.dep_fields.specs.Fields.{Field}
use Rattle.dep_fields.proofs.Laws.{field-also}
use Rattle.dep_fields.proofs.checked.SingleField.groups.Goals as goal

pub new-requires : goal.new-requires
new-requires c =
    let field = c.args.self.now in
    ap (λ (f : Field). f.fault) (field-also field.value.now field.sound) ∙ field.sound

pub returns : goal.returns
returns c =
    let field = c.args.self.now in
    c.new.ensures ∙ ap (λ (f : Field). f.groups) (field-also field.value.now field.sound)
