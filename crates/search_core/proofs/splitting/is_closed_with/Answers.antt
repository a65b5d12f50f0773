use Rattle.std.proofs.Common.{◌≡◌, true, sym, ap, ◌∙◌}
use Rattle.std.specs.List.{list_any}
use Rattle.lists.specs.Below.{below}
use Rattle.resolver_model.specs.Problems.{dependency_count, is_open}
use Rattle.broken_deps.specs.Opening.{open_deps}
use Rattle.search_core.proofs.Opens.{any_within}
use Rattle.search_core.proofs.splitting.is_closed_with.Goals as goal

pub returns-then-is_any_left : goal.returns-then-is_any_left
returns-then-is_any_left c =
    let p = c.args.problem.now in
    let open_in = is_open p c.args.larger.now in
    let some : list_any open_in (open_deps p c.args.set.now) ≡ true = ap (list_any open_in) (sym c.requires.list) ∙ sym c.is_any_left.ensures ∙ c.if-is_any_left.true in
    sym (any_within open_in (is_open p c.args.set.now) (below (dependency_count p)) some)

pub returns : goal.returns
returns c =
    let p = c.args.problem.now in
    c.is_closed.ensures p c.args.larger.now (c.in_ok-after.ensures ∙ ap (open_deps p) (sym c.requires.larger))
