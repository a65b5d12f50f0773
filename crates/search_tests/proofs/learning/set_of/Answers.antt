use Rattle.std.proofs.Common.{◌≡◌, ℕ, List, true, sym, subst, IsTrue, get_or, arith}
use Rattle.resolver_model.specs.Problems.{is_choice, is_choice_set}
use Rattle.problem.proofs.Sets.{choice_set_with}
use Rattle.search_tests.proofs.learning.set_of.Goals as goal

pub loop-item-preserved : goal.loop-item-preserved
loop-item-preserved c =
    let item = get_or c.args.items.now c.loop-item.item-index 0 in
    let P : List ℕ → Type 0 = λ s. IsTrue (is_choice_set c.args.problem.now s) in
    let choice : is_choice c.args.problem.now item ≡ true = first_of (cc (c.is_choice.ensures, c.if-not-is_choice.false), grind (arith, c.is_choice.ensures, c.if-not-is_choice.false)) in
    subst P (sym c.in_ok-set.ensures) (choice_set_with c.args.problem.now c.loop-item.set item c.loop-item.invariant choice)
