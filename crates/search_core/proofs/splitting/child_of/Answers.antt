use Rattle.std.proofs.Common.{◌≡◌, ◌<◌, ℕ, List, sym, ap, ◌∙◌, ltb-true, nat_lt, not}
use Rattle.std.proofs.lemmas.Bool.{not-true}
use Rattle.broken_deps.specs.Opening.{open_deps}
use Rattle.lists.proofs.Sets.{list_all-has}
use Rattle.lists.specs.Sets.{has}
use Rattle.resolver_model.specs.Costs.{cost}
use Rattle.search_core.proofs.Ways.{found_in}
use Rattle.search_core.proofs.Opens.{one_more, no_more}
use Rattle.search_core.proofs.splitting.child_of.Goals as goal

pub child_with-requires-clause-larger : goal.child_with-requires-clause-larger
child_with-requires-clause-larger c = one_more c.args.set.now c.args.node.taken c.in-Some.choice c.requires.larger (sym c.in-Some.ensures)

pub child_with-requires-clause-choice : goal.child_with-requires-clause-choice
child_with-requires-clause-choice c =
    let found = found_in (λ x. not (has c.args.set.now x)) c.args.node.taken c.in-Some.choice (sym c.in-Some.ensures) in
    ltb-true c.in-Some.choice c.args.basis.now.table.choices (list_all-has (λ x. nat_lt x c.args.basis.now.table.choices) c.args.node.taken c.in-Some.choice c.requires.choices found.1)

pub child_with-requires-clause-new : goal.child_with-requires-clause-new
child_with-requires-clause-new c = not-true _ (found_in (λ x. not (has c.args.set.now x)) c.args.node.taken c.in-Some.choice (sym c.in-Some.ensures)).0

pub returns-in-None : goal.returns-in-None
returns-in-None c =
    let same = no_more c.args.set.now c.args.node.taken c.requires.rising c.requires.larger (sym c.in-None.ensures) in
    let p = c.args.basis.now.problem in
    let t = c.args.basis.now.table in
    c.child_without.ensures p t (c.requires.list ∙ ap (open_deps p) (sym same)) (c.requires.cost ∙ ap (cost t) (sym same))
