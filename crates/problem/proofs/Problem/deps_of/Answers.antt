use Rattle.std.proofs.Common.{◌≡◌, ◌<◌, ◌∙◌, ap, sym, subst, IsTrue, nat_lt, nat_eq}
use Rattle.std.specs.List.{list_all}
use Rattle.resolver_model.specs.Problems.{Problem, version_count, dependency_count, dependency}
use Rattle.problem.specs.Touching.{deps_of}
use Rattle.problem.proofs.Indexes.{filter_range}
use Rattle.problem.proofs.Problem.deps_of.Goals as goal

pub returns-clause-range : goal.returns-clause-range
returns-clause-range c =
    let p : Problem = c.self.inside.parts in
    let P : Problem → Type 0 = λ r. IsTrue (list_all (λ d. nat_lt d (dependency_count r)) c.of.result.now) in
    let Q : Problem → Type 0 = λ r. c.args.version < version_count r in
    let own : c.of.result.now ≡ deps_of p c.args.version = c.of.ensures ∙ c.self.invariant.listed.of.each c.args.version (subst Q (sym c.self.view_is) c.requires) in
    subst P c.self.view_is (ap (list_all (λ d. nat_lt d (dependency_count p))) own ∙ filter_range (λ d. nat_eq (dependency p d).source c.args.version) (dependency_count p))
