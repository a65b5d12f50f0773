use Rattle.std.proofs.Common.{◌≤◌, ◌∙◌, ◌&&◌, nat_le, nat_lt, ap, subst, arith}
use Rattle.std.specs.List.{find}
use Rattle.resolver_model.specs.Problems.{IsWellFormed, package_count}
use Rattle.problem.specs.Places.{absent_of}
use Rattle.problem.proofs.Installs.{first_in_range, none_past}
use Rattle.problem.proofs.parts.Parts.first_install.Goals as goal

pub returns-then-package-packages : goal.returns-then-package-packages
returns-then-package-packages c =
    let le : package_count c.args.self.now ≤ c.args.package = omega (arith, c.packages.ensures, c.if-package-packages.true) in
    none_past c.args.self.now (subst IsWellFormed c.self.view_is c.self.invariant.formed) c.args.package c.args.items.now le

pub returns : goal.returns
returns c =
    let formed = subst IsWellFormed c.self.view_is c.self.invariant.formed in
    c.first_within.ensures ∙ ap (λ k. find (λ n. nat_le k n && nat_lt n c.end_of.result) c.args.items.now) c.absent_of.ensures.absent
    ∙ ap (λ k. find (λ n. nat_le (absent_of c.args.self.now c.args.package) n && nat_lt n k) c.args.items.now) c.end_of.ensures.end
    ∙ first_in_range c.args.self.now formed c.args.package c.args.items.now
