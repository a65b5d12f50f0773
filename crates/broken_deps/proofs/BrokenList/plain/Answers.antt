use Rattle.resolver_model.specs.Problems.{dependency_count, is_open}
use Rattle.broken_deps.specs.Opening.{candidates}
use Rattle.broken_deps.proofs.Found.{candidates_range, open_found}
use Rattle.broken_deps.proofs.Gathered.{sorted_same}
use Rattle.broken_deps.proofs.BrokenList.plain.Goals as goal

pub returns : goal.returns
returns c =
    let p = c.args.problem.now in
    let set = c.args.set.now in
    sorted_same (is_open p set) (dependency_count p) (candidates p set) c.in_ok-deps.deps.items c.make_rising.new.numbers.items c.in_ok-deps.ensures c.make_rising.ensures.rising c.make_rising.ensures.same
    (candidates_range p set) (open_found p set)
