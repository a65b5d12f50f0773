use Rattle.std.proofs.Common.{◌≡◌, ◌∙◌, [], ap, subst, IsTrue, nat_lt}
use Rattle.std.specs.List.{list_all}
use Rattle.resolver_model.specs.Problems.{Problem, dependency_count, is_broken}
use Rattle.problem.specs.Touching.{broken_at_start}
use Rattle.problem.proofs.Indexes.{filter_range}
use Rattle.problem.proofs.Problem.broken_at_start.Goals as goal

pub returns-clause-range : goal.returns-clause-range
returns-clause-range c =
    let p : Problem = c.self.inside.parts in
    let P : Problem → Type 0 = λ r. IsTrue (list_all (λ d. nat_lt d (dependency_count r)) c.as_slice.result.now) in
    let own : c.as_slice.result.now ≡ broken_at_start p = c.as_slice.ensures.value ∙ c.self.invariant.broken in
    subst P c.self.view_is (ap (list_all (λ d. nat_lt d (dependency_count p))) own ∙ filter_range (is_broken p []) (dependency_count p))
