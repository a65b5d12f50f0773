-- The name has the number that its slot has, or stands among the others.
use Rattle.std.proofs.Common.{◌∙◌, sym, ap, Bool, Some, cond}
use Rattle.std.specs.List.{position}
use Rattle.std.specs.Map.{lookup}
use Rattle.ascii.specs.Texts.{is_same}
use Rattle.universe_parts.specs.Names.{is_key}
use Rattle.universe_parts.proofs.Numbering.{lookup-same}
use Rattle.universe_parts.proofs.Slots.{found-read}
use Rattle.universe_parts.proofs.names.Names.number_of.Goals as goal

pub returns-then-eq : goal.returns-then-eq
returns-then-eq c =
    ap (λ (same : Bool). cond same (Some c.in_ok-first.first) (lookup (is_key c.args.name.now) c.self.inside.others.entries)) (sym c.if-eq.true)
    ∙ found-read c.self.inside.list c.self.inside.slots.items c.self.inside.others.entries c.args.name.now c.self.inside.numbered c.share_of.result c.index.result.now c.in_ok-first.first c.first_in.result c.at.result.now c.eq.result c.self.inside.sized c.share_of.ensures.range c.share_of.ensures.share c.index.ensures c.first_in.ensures c.in_ok-first.was c.at.ensures c.eq.ensures
    ∙ ap (position (is_same c.args.name.now)) c.self.view_is

pub returns : goal.returns
returns c =
    c.copied.ensures
    ∙ c.get.ensures.value
    ∙ lookup-same c.args.name.now c.self.inside.others.entries
    ∙ ap (λ (same : Bool). cond same (Some c.in_ok-first.first) (lookup (is_key c.args.name.now) c.self.inside.others.entries)) (sym c.if-eq.false)
    ∙ found-read c.self.inside.list c.self.inside.slots.items c.self.inside.others.entries c.args.name.now c.self.inside.numbered c.share_of.result c.index.result.now c.in_ok-first.first c.first_in.result c.at.result.now c.eq.result c.self.inside.sized c.share_of.ensures.range c.share_of.ensures.share c.index.ensures c.first_in.ensures c.in_ok-first.was c.at.ensures c.eq.ensures
    ∙ ap (position (is_same c.args.name.now)) c.self.view_is
