use Rattle.std.proofs.Common.{◌≡◌, ◌<◌, ◌∙◌, ap, sym, subst, IsTrue, nat_lt}
use Rattle.std.specs.List.{list_all}
use Rattle.resolver_model.specs.Problems.{Problem, package_count, dependency_count}
use Rattle.problem.specs.Touching.{touching, touches}
use Rattle.problem.proofs.Indexes.{filter_range}
use Rattle.problem.proofs.Problem.touching.Goals as goal

pub returns-clause-range : goal.returns-clause-range
returns-clause-range c =
    let p : Problem = c.self.inside.parts in
    let P : Problem → Type 0 = λ r. IsTrue (list_all (λ d. nat_lt d (dependency_count r)) c.touching.result.now) in
    let Q : Problem → Type 0 = λ r. c.args.package < package_count r in
    let own : c.touching.result.now ≡ touching p c.args.package = c.touching.ensures ∙ c.self.invariant.listed.touching.each c.args.package (subst Q (sym c.self.view_is) c.requires) in
    subst P c.self.view_is (ap (list_all (λ d. nat_lt d (dependency_count p))) own ∙ filter_range (touches p c.args.package) (dependency_count p))
