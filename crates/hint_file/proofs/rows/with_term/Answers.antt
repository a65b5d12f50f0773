use Rattle.std.proofs.Common.{◌≡◌, ◌∙◌, ◌+◌, ◌*◌, ℕ, List, ap, ap₂, if◌then◌else◌}
use Rattle.hint_effects.specs.Sums.{capped}
use Rattle.hint_effects.specs.Effects.{added}
use Rattle.hint_file.specs.CostNames.{cost_kind, counts}
use Rattle.hint_file.specs.Scenes.{scene_of}
use Rattle.hint_file.proofs.Capping.{capped-times}
use Rattle.hint_file.proofs.rows.with_term.Goals as goal

pub returns : goal.returns
returns c =
    λ hints are.
    let s = scene_of c.args.setting.now in
    let term = c.args.term.now in
    let n : ℕ = if counts s (cost_kind term.name) c.args.choice then 1 else 0 in
    let own : c.own_amount-own.result ≡ n = c.own_amount-own.ensures ∙ ap (λ (name : List ℕ). if counts s (cost_kind name) c.args.choice then 1 else 0) c.as_slice.ensures in
    c.with_times.ensures
    ∙ ap₂ (λ o a. capped (c.args.before + term.times * (o + a))) own (c.added_at-more.ensures.added hints term.name are)
    ∙ capped-times c.args.before term.times n (added c.args.setting.now.problem.now hints term.name c.args.choice)
