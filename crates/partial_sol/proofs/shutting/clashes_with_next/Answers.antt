use Rattle.std.proofs.Common.{◌+◌, ◌∙◌, ap, subst}
use Rattle.std.specs.Prelude.{slice_index}
use Rattle.resolver_model.specs.Problems.{IsWellFormed}
use Rattle.partial_sol.specs.Shutting.{clash}
use Rattle.partial_sol.proofs.Neighbours.{place_clash, last_clash}
use Rattle.partial_sol.proofs.shutting.clashes_with_next.Goals as goal

pub returns-in-Some : goal.returns-in-Some
returns-in-Some c =
    let p = c.args.problem.now in
    let set = c.args.items.now in
    let place = c.args.place in
    let found = c.in-Some.ensures.lookup.3 in
    c.clash.ensures ∙ ap (clash p (slice_index set place)) (found.1 0)
    ∙ place_clash p c.versions.ensures.formed set place c.requires.rising found.0

pub returns-in-None : goal.returns-in-None
returns-in-None c = last_clash c.args.problem.now c.args.items.now c.args.place c.in-None.ensures.lookup.3
