use Rattle.std.proofs.Common.{◌∙◌, ap}
use Rattle.std.specs.List.{slice_get}
use Rattle.problem.specs.Halving.{if_before}
use Rattle.problem.proofs.Halving.{first_at}
use Rattle.problem.proofs.parts.first_within.Goals as goal

pub returns : goal.returns
returns c = c.if_before.ensures ∙ ap (λ k. if_before c.args.end (slice_get c.args.numbers.now k)) c.count_below.ensures ∙ first_at c.args.first c.args.end c.args.numbers.now c.requires
