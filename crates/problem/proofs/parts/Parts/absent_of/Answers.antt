use Rattle.std.proofs.Common.{◌≡◌, ◌<◌, sym, subst}
use Rattle.resolver_model.specs.Problems.{Problem, package_count, version_count, package_of}
use Rattle.problem.proofs.Ranges.{first_range, first_own}
use Rattle.problem.proofs.parts.Parts.absent_of.Goals as goal

pub returns-clause-range : goal.returns-clause-range
returns-clause-range c =
    let p : Problem = record { owners = c.self.inside.owners.items; starts = c.self.inside.starts.items; dependencies = c.self.inside.dependencies } in
    let P : Problem → Type 0 = λ r. c.args.package < package_count r in
    let Q : Problem → Type 0 = λ r. c.index.result.now < version_count r in
    subst Q c.self.view_is (first_range p c.self.inside.firsts.items c.self.invariant c.args.package c.index.result.now (subst P (sym c.self.view_is) c.requires) c.index.ensures)

pub returns-clause-own : goal.returns-clause-own
returns-clause-own c =
    let p : Problem = record { owners = c.self.inside.owners.items; starts = c.self.inside.starts.items; dependencies = c.self.inside.dependencies } in
    let P : Problem → Type 0 = λ r. c.args.package < package_count r in
    let Q : Problem → Type 0 = λ r. package_of r c.index.result.now ≡ c.args.package in
    subst Q c.self.view_is (first_own p c.self.inside.firsts.items c.self.invariant c.args.package c.index.result.now (subst P (sym c.self.view_is) c.requires) c.index.ensures)
