use Rattle.std.proofs.Common.{◌≡◌, ◌∙◌, ap}
use Rattle.std.specs.List.{filter}
use Rattle.lists.specs.Sets.{with}
use Rattle.resolver_model.specs.Problems.{dependency_count, is_open}
use Rattle.broken_deps.specs.Opening.{candidates_after}
use Rattle.broken_deps.proofs.Found.{candidates_after_range, open_found_after}
use Rattle.broken_deps.proofs.Gathered.{sorted_same}
use Rattle.broken_deps.proofs.BrokenList.after.Goals as goal

pub returns : goal.returns
returns c =
    let p = c.args.problem.now in
    let set = c.args.set.now in
    let choice = c.args.choice in
    let list : c.in_ok-deps.deps.items ≡ filter (is_open p (with set choice)) (candidates_after p set choice) =
    c.in_ok-deps.ensures ∙ ap (λ larger. filter (is_open p larger) (candidates_after p set choice)) c.in_ok-larger.ensures in
    sorted_same (is_open p (with set choice)) (dependency_count p) (candidates_after p set choice) c.in_ok-deps.deps.items c.make_rising.new.numbers.items list c.make_rising.ensures.rising c.make_rising.ensures.same
    (candidates_after_range p set choice) (open_found_after p set choice)
