use Rattle.std.proofs.Common.{◌+◌, ap₂, ◌∙◌}
use Rattle.hint_effects.specs.Sums.{capped}
use Rattle.hint_effects.proofs.SumParts.{added-capped}
use Rattle.hint_effects.proofs.sums.added_at.Goals as goal

pub returns-clause-added : goal.returns-clause-added
returns-clause-added c =
    λ hints name are.
    c.plus.ensures.sum ∙ ap₂ (λ o w. capped (o + w)) c.of_number.ensures c.on_package.ensures
    ∙ added-capped c.args.problem.now name c.args.choice hints c.args.sums.now are
