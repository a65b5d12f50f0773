-- The last one is kept, or the next one covers it.
use Rattle.std.proofs.Common.{◌≡◌, List, Option, Some, refl, subst, inl, inr, ◌∙◌, ap, sym, ◌||◌, take}
use Rattle.std.proofs.lemmas.List.{take_all}
use Rattle.std.proofs.lemmas.List.Folds.{list_any_more}
use Rattle.std.specs.List.{Contains}
use Rattle.std.proofs.lemmas.List.Elements.{Contains-push_cases}
use Rattle.meeting_index.specs.declared.carried.Carried.{Carried}
use Rattle.meeting_index.specs.Fitting.{fits_as, has_fitting, last_fits}
use Rattle.meeting_index.proofs.CrowdLaws.{or-none}
use Rattle.meeting_index.proofs.SideLaws.{fitting-end}
use Rattle.meeting_index.proofs.sides.one_of_each.Goals as goal

last-is : (next : Carried) (o : Option Carried) (y : Carried) → o ≡ Some next → o ≡ Some y → next ≡ y
last-is next o y e f = cc

pub loop-next-preserved : goal.loop-next-preserved
loop-next-preserved c =
    let xs = c.args.by_number.now in
    let i = c.loop-next.next-index in
    let next = c.next-item.result in
    record {
      serves = λ bound n reach.
          c.in_ok-keep_last.ensures.serves bound n reach
          ∙ ap (λ b. b || fits_as bound n next) (c.loop-next.invariant.serves bound n reach)
          ∙ ap (λ y. has_fitting (take i xs) bound n || fits_as bound n y) c.next-item.is
          ∙ sym (list_any_more (fits_as bound n) xs i next c.loop-next-test.true);
      part = λ y there.
          elim (c.in_ok-keep_last.ensures.part y there) as (λ _. Contains xs y) [
            | inl before ↦ c.loop-next.invariant.part y before
            | inr same ↦ c.loop-next.invariant.last y same
          ];
      last = λ y same. subst (λ (x : Carried). Contains xs x) (last-is next (Some next) y refl same) (i, c.loop-next-test.true, sym c.next-item.is);
    }

pub returns-in-None-clause-serves : goal.returns-in-None-clause-serves
returns-in-None-clause-serves c = λ bound n reach.
    sym (or-none (has_fitting c.loop-next.kept.items bound n))
    ∙ ap (λ o. has_fitting c.loop-next.kept.items bound n || last_fits bound n o) (sym c.in-None.is)
    ∙ c.loop-next.invariant.serves bound n reach
    ∙ ap (λ ys. has_fitting ys bound n) (take_all c.loop-next.next-index c.args.by_number.now c.loop-next-test.false)

pub returns-in_ok-push-in-Some : goal.returns-in_ok-push-in-Some
returns-in_ok-push-in-Some c =
    let kept = c.loop-next.kept.items in
    let xs = c.args.by_number.now in
    record {
      serves = λ bound n reach.
          ap (λ ys. has_fitting ys bound n) c.in_ok-push-in-Some.ensures.items
          ∙ fitting-end kept c.in-Some.last bound n
          ∙ ap (λ o. has_fitting kept bound n || last_fits bound n o) (sym c.in-Some.is)
          ∙ c.loop-next.invariant.serves bound n reach
          ∙ ap (λ ys. has_fitting ys bound n) (take_all c.loop-next.next-index xs c.loop-next-test.false);
      part = λ y there.
          elim (Contains-push_cases kept c.in-Some.last y (subst (λ (ys : List Carried). Contains ys y) c.in_ok-push-in-Some.ensures.items there)) as (λ _. Contains xs y) [
            | inl before ↦ c.loop-next.invariant.part y before
            | inr same ↦ subst (λ (x : Carried). Contains xs x) same (c.loop-next.invariant.last c.in-Some.last c.in-Some.is)
          ];
    }
