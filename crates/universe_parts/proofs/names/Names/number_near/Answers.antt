-- The name that stands at the place that is guessed.
use Rattle.std.proofs.Common.{◌∙◌, ap, subst, ℕ, ◌<◌}
use Rattle.std.specs.List.{position}
use Rattle.ascii.specs.Texts.{is_same}
use Rattle.universe_parts.proofs.Slots.{found-near}
use Rattle.universe_parts.proofs.names.Names.number_near.Goals as goal

pub returns-then-eq : goal.returns-then-eq
returns-then-eq c =
    found-near c.self.inside.list c.self.inside.slots.items c.self.inside.others.entries c.args.name.now c.at.result.now c.args.guess c.eq.result c.self.inside.numbered
    (subst (λ (n : ℕ). c.args.guess < n) c.len.ensures c.if-guess-len.true)
    c.at.ensures
    c.eq.ensures
    c.if-eq.true
    ∙ ap (position (is_same c.args.name.now)) c.self.view_is
