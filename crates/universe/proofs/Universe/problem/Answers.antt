use Rattle.std.proofs.Common.{◌∙◌, ap, sym, map}
use Rattle.universe_model.specs.Universes.{owner_of, problem_of}
use Rattle.universe.specs.Views.{known_version}
use Rattle.universe.proofs.Zips.{requirements_of-dependencies}
use Rattle.universe.proofs.Universe.problem.Goals as goal

pub returns-clause-problem : goal.returns-clause-problem
returns-clause-problem c =
    let p = c.self.inside.problem in
    ap (λ owners. record { owners = owners; starts = p.starts; dependencies = p.dependencies }) c.self.invariant.owners
    ∙ ap (λ ds. record { owners = map owner_of (map known_version c.self.inside.versions.items); starts = p.starts; dependencies = ds })
    (sym (requirements_of-dependencies p.dependencies c.self.inside.groups.items c.self.inside.conflicts.items c.self.invariant.groups c.self.invariant.conflicts))
    ∙ ap problem_of c.self.view_is
