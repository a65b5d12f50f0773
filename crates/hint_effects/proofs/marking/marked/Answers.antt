use Rattle.std.proofs.Common.{◌≡◌, ◌∙◌, ◌+◌, ℕ, true, List, IfOk, sym, ap, subst, arith}
use Rattle.lists.specs.Sets.{is_rising}
use Rattle.resolver_model.specs.Problems.{version_count, dependency_count}
use Rattle.hint_effects.specs.Stamped.{marked_upto}
use Rattle.hint_effects.proofs.MarkedChoices.{marked-is, marked-rises, marked-next, unmarked-next}
use Rattle.hint_effects.proofs.marking.marked.Goals as goal
use Rattle.hint_effects.proofs.marking.marked.Goals.{then-has_mark+in_ok-push, else-has_mark}

pub loop-choice-preserved : goal.loop-choice-preserved
loop-choice-preserved c =
    let next = marked-next c.args.problem.now c.args.hints.now c.args.mark c.loop-choice.choice in
    let same = unmarked-next c.args.problem.now c.args.hints.now c.args.mark c.loop-choice.choice in
    elim c.if-has_mark.branch [
      | then-has_mark+in_ok-push w ↦ let e = next (sym c.has_mark.ensures ∙ w.if-has_mark.true) in grind (arith, e, w.list-is, w.in_ok-push.ensures, c.loop-choice.invariant)
      | else-has_mark w ↦ let e = same (sym c.has_mark.ensures ∙ w.if-has_mark.false) in grind (arith, e, w.list-is, c.loop-choice.invariant)
    ]

pub from_list-requires : goal.from_list-requires
from_list-requires c =
    subst (λ (list : List ℕ). is_rising list ≡ true) (sym (c.as_slice.ensures.value ∙ c.loop-choice.invariant))
    (marked-rises c.args.problem.now c.args.hints.now c.args.mark c.loop-choice.choice)

pub returns : goal.returns
returns c =
    let p = c.args.problem.now in
    let all : c.loop-choice.choice ≡ version_count p + dependency_count p =
    omega (arith, c.loop-choice-test.false, c.loop-choice.auto.choice-end, c.versions.ensures.count, c.deps.ensures) in
    let items = c.as_slice.ensures.value ∙ c.loop-choice.invariant ∙ ap (marked_upto p c.args.hints.now c.args.mark) all ∙ marked-is p c.args.hints.now c.args.mark in
    subst (λ (list : List ℕ). IfOk c.from_list.result (λ set. set ≡ list)) items c.from_list.ensures
