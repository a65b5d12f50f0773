use Rattle.std.proofs.Common.{ap, sym, ◌∙◌}
use Rattle.problem.specs.Places.{absent_of}
use Rattle.wanted.proofs.Owners.{absent-found}
use Rattle.wanted.proofs.words.absent_of.Goals as goal

pub returns-clause-absent : goal.returns-clause-absent
returns-clause-absent c =
    c.absent_of.ensures.absent ∙ ap (λ p. absent_of p c.args.«package») c.problem_of.ensures.problem
    ∙ sym (absent-found c.args.universe.now c.problem_of.ensures.formed c.args.«package» c.problem_of.ensures.range)
