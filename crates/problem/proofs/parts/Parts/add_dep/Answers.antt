use Rattle.std.proofs.Common.{◌≡◌, None, IsTrue, nat_lt, sym, refl, subst, ◌<◌}
use Rattle.std.specs.List.{list_all}
use Rattle.resolver_model.specs.Problems.{Problem, Dependency, version_count}
use Rattle.problem.specs.Limits.{dependency_refusal}
use Rattle.problem.proofs.Kept.{dependency_kept, problem_same, kept_as}
use Rattle.problem.proofs.parts.Parts.add_dep.Goals as goal

pub invariant_of-self-2 : goal.invariant_of-self-2
invariant_of-self-2 c =
    let p : Problem = record { owners = c.self.inside.owners.items; starts = c.self.inside.starts.items; dependencies = c.self.inside.dependencies } in
    let x : Dependency = record { source = c.args.source; targets = c.args.targets.now; soft = c.args.soft } in
    let P : Problem → Type 0 = λ r. IsTrue (list_all (λ v. nat_lt v (version_count r)) c.args.targets.now) in
    let Q : Problem → Type 0 = λ r. dependency_refusal r c.args.targets.now ≡ None in
    let R : Problem → Type 0 = λ r. c.args.source < version_count r in
    let kept = dependency_kept p c.self.inside.firsts.items c.self.invariant x (subst R (sym c.self.view_is) c.requires.source) c.requires.rising
    (subst P (sym c.self.view_is) c.requires.range) (subst Q (sym c.self.view_is) c.requires.within) in
    kept_as (problem_same refl refl c.in_ok-push.ensures) refl kept
