use Rattle.std.proofs.Common.{ap, ◌∙◌}
use Rattle.dep_fields.specs.Fields.{Field}
use Rattle.dep_fields.proofs.Laws.{field-also}
use Rattle.dep_fields.proofs.Provided.{provides-sound}
use Rattle.dep_fields.proofs.checked.ProvidesField.groups.Goals as goal

pub new-requires : goal.new-requires
new-requires c =
    let value = c.args.self.now.value.now in
    let sound = provides-sound value c.args.self.now.sound in
    ap (λ (f : Field). f.fault) (field-also value sound) ∙ sound

pub returns : goal.returns
returns c =
    let value = c.args.self.now.value.now in
    c.new.ensures ∙ ap (λ (f : Field). f.groups) (field-also value (provides-sound value c.args.self.now.sound))
