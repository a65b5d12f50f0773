use Rattle.std.proofs.Common.{sym, ◌∙◌}
use Rattle.dep_fields.specs.Fields.{bar, pieces}
use Rattle.dep_fields.proofs.Parts.{length-items_in}
use Rattle.dep_fields.proofs.groups.Group.len.Goals as goal

pub returns : goal.returns
returns c =
    let group = c.args.self.now in
    c.count_parts.ensures ∙ sym (length-items_in (pieces bar group.text.now) group.whole)
