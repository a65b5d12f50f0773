use Rattle.std.proofs.Common.{◌∙◌, ap, length, ◌==◌}
use Rattle.dep_fields.specs.Tokens.{is_blank}
use Rattle.ascii.proofs.Texts.{behind-none}
use Rattle.dep_fields.proofs.groups.cuts.is_empty_group.Goals as goal

pub returns : goal.returns
returns c = c.is_empty.ensures ∙ ap (λ l. length l == 0) c.skip_blanks.ensures ∙ behind-none is_blank c.args.text.now
