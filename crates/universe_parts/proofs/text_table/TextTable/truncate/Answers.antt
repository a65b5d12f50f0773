-- The first texts stay.
use Rattle.std.proofs.Common.{true, List, sym, ap, subst, take, ◌∙◌, ◌≡◌}
use Rattle.std.proofs.lemmas.List.{take-map}
use Rattle.std.specs.List.{list_all}
use Rattle.universe_parts.specs.declared.text_table.TextSpan.{TextSpan}
use Rattle.universe_parts.specs.TextTables.{is_span, text_at, texts_at}
use Rattle.universe_parts.proofs.Spans.{spans-first}
use Rattle.universe_parts.proofs.text_table.TextTable.truncate.Goals as goal

pub invariant_of-self : goal.invariant_of-self
invariant_of-self c =
    let bytes = c.self.inside.bytes.items in
    subst (λ (spans : List TextSpan). list_all (is_span bytes) spans ≡ true) (sym c.truncate.ensures.items)
    (spans-first bytes c.args.count c.self.inside.spans.items c.self.invariant)

pub returns : goal.returns
returns c =
    let bytes = c.self.inside.bytes.items in
    ap (texts_at bytes) c.truncate.ensures.items
    ∙ sym (take-map (text_at bytes) c.args.count c.self.inside.spans.items)
    ∙ ap (take c.args.count) c.self.view_is
