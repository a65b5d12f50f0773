-- The same name, no architecture, and a bound that is no stricter.
use Rattle.std.proofs.Common.{◌≡◌, ◌∙◌, sym, false, refl, Option, Some, None, option_copied, is_some, Bor, List, ℕ}
use Rattle.dep_fields.specs.Relationships.{meaning}
use Rattle.meeting_index.proofs.Covering.{implies-item}
use Rattle.meeting_index.proofs.items.covers.Goals as goal

no-arch : (arch : Option (Bor (List ℕ))) → is_some arch ≡ false → option_copied arch ≡ None
no-arch None e = refl
no-arch (Some arch) e = absurd (cc)

pub returns : goal.returns
returns c = λ yes.
    implies-item (meaning c.args.item.now) (meaning c.args.wide.now) (sym (c.is_same_text.ensures c.if-not-is_same_text.false))
    (no-arch c.args.wide.now.arch (sym c.is_some.ensures ∙ c.if-is_some.false)) (c.covers_bound.ensures yes)
