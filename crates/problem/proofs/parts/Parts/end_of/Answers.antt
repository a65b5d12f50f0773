use Rattle.std.proofs.Common.{◌≡◌, ◌<◌, ◌≤◌, ◌+◌, sym, subst, arith, rules, length, ◌∙◌}
use Rattle.resolver_model.specs.Problems.{Problem, package_count, version_count}
use Rattle.problem.specs.Places.{end_of}
use Rattle.problem.proofs.Ranges.{end_from_next, end_at_last, first_range}
use Rattle.problem.proofs.parts.Parts.end_of.Goals as goal

pub returns-then-package-len-clause-range : goal.returns-then-package-len-clause-range
returns-then-package-len-clause-range c =
    let p : Problem = record { owners = c.self.inside.owners.items; starts = c.self.inside.starts.items; dependencies = c.self.inside.dependencies } in
    let Q : Problem → Type 0 = λ r. c.index.result.now ≤ version_count r in
    let size : c.len.result ≡ length c.self.inside.firsts.items = search rules in
    let next : c.args.package + 1 < package_count p = omega (arith, size, c.self.invariant.places.size) in
    let less : c.index.result.now < version_count p = first_range p c.self.inside.firsts.items c.self.invariant (c.args.package + 1) c.index.result.now next c.index.ensures in
    subst Q c.self.view_is (omega (arith, less))

pub returns-then-package-len-clause-end : goal.returns-then-package-len-clause-end
returns-then-package-len-clause-end c =
    let p : Problem = record { owners = c.self.inside.owners.items; starts = c.self.inside.starts.items; dependencies = c.self.inside.dependencies } in
    let Q : Problem → Type 0 = λ r. c.index.result.now ≡ end_of r c.args.package in
    let size : c.len.result ≡ length c.self.inside.firsts.items = search rules in
    let next : c.args.package + 1 < package_count p = omega (arith, size, c.self.invariant.places.size) in
    subst Q c.self.view_is (end_from_next p c.self.inside.firsts.items c.self.invariant c.args.package c.index.result.now next c.index.ensures)

pub returns-else-package-len-clause-end : goal.returns-else-package-len-clause-end
returns-else-package-len-clause-end c =
    let p : Problem = record { owners = c.self.inside.owners.items; starts = c.self.inside.starts.items; dependencies = c.self.inside.dependencies } in
    let P : Problem → Type 0 = λ r. c.args.package < package_count r in
    let Q : Problem → Type 0 = λ r. c.len-else-package-len.result ≡ end_of r c.args.package in
    let size : c.len.result ≡ length c.self.inside.firsts.items = search rules in
    let all : c.len-else-package-len.result ≡ length c.self.inside.owners.items = search rules in
    let lt : c.args.package < package_count p = subst P (sym c.self.view_is) c.requires in
    let last : package_count p ≤ c.args.package + 1 = omega (arith, size, c.self.invariant.places.size) in
    subst Q c.self.view_is (all ∙ end_at_last p c.self.invariant.formed c.args.package lt last)
