use Rattle.std.proofs.Common.{◌≡◌, sym, rules, subst}
use Rattle.resolver_model.specs.Problems.{Problem}
use Rattle.problem.specs.Places.{IsOneOfEach}
use Rattle.problem.proofs.Kept.{starts_kept, problem_same, kept_as}
use Rattle.problem.proofs.parts.Parts.with_starts.Goals as goal

pub invariant_of-result : goal.invariant_of-result
invariant_of-result c =
    let p : Problem = record { owners = c.self.inside.owners.items; starts = c.self.inside.starts.items; dependencies = c.self.inside.dependencies } in
    let owners : c.in_ok-owners.owners.items ≡ c.self.inside.owners.items = search rules in
    let starts : c.in_ok-starts.starts.items ≡ c.args.starts.now = search rules in
    let firsts : c.in_ok-firsts.firsts.items ≡ c.self.inside.firsts.items = search rules in
    let each : IsOneOfEach p c.args.starts.now = subst (λ r. IsOneOfEach r c.args.starts.now) (sym c.self.view_is) c.requires in
    kept_as (problem_same owners starts c.in_ok-dependencies.ensures) firsts (starts_kept p c.self.inside.firsts.items c.self.invariant c.args.starts.now each)
