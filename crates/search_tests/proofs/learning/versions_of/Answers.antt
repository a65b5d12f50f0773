use Rattle.std.proofs.Common.{ℕ, List, sym, subst, IsTrue, nat_lt, get_or}
use Rattle.std.specs.List.{list_all}
use Rattle.problem.proofs.Sets.{versions_with}
use Rattle.search_tests.proofs.learning.versions_of.Goals as goal

pub loop-item-preserved : goal.loop-item-preserved
loop-item-preserved c =
    let P : List ℕ → Type 0 = λ s. IsTrue (list_all (λ v. nat_lt v c.args.count) s) in
    subst P (sym c.in_ok-set.ensures) (versions_with c.args.count c.loop-item.set (get_or c.args.items.now c.loop-item.item-index 0) c.loop-item.invariant c.if-item-count.false)
