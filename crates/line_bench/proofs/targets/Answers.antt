use Rattle.std.proofs.Common.{ℕ, List, sym, subst, IsTrue, nat_lt, ◌+◌, ◌*◌}
use Rattle.std.specs.List.{list_all}
use Rattle.problem.proofs.Sets.{versions_with}
use Rattle.line_bench.proofs.targets.Goals as goal

pub loop-package-preserved : goal.loop-package-preserved
loop-package-preserved c =
    let P : List ℕ → Type 0 = λ s. IsTrue (list_all (λ v. nat_lt v c.args.count) s) in
    subst P (sym c.in_ok-set.ensures) (versions_with c.args.count c.loop-package.set (2 * c.loop-package.package + 1) c.loop-package.invariant c.if-version-count.false)
