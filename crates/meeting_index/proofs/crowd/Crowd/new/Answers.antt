-- The sides serve for all, in whatever order they were made from.
use Rattle.std.proofs.Common.{◌≡◌, ◌∙◌, subst, List, inl, inr}
use Rattle.std.specs.List.{Contains}
use Rattle.std.specs.List.Sorted.{IsPermutation}
use Rattle.std.proofs.lemmas.List.Sorted.{Contains-permutation, IsPermutation-sym, IsPermutation-trans}
use Rattle.meeting_index.specs.Fitting.{Serves, either}
use Rattle.meeting_index.specs.declared.carried.Carried.{Carried}
use Rattle.meeting_index.specs.declared.sides.Side.TheVariants as side
use Rattle.meeting_index.proofs.SideLaws.{serves-moved}
use Rattle.meeting_index.proofs.crowd.Crowd.new.Goals as goal

pub invariant_of-result : goal.invariant_of-result
invariant_of-result c =
    let all = c.args.by_version.items in
    let sorted = c.sort_by_key.new.self.items in
    let turned = c.reverse.new.self.items in
    let copied : c.in_ok-by_number.by_number.items ≡ all = c.in_ok-by_number.ensures.items ∙ c.as_slice.ensures.value in
    let by_number : IsPermutation all sorted = subst (λ (ys : List Carried). IsPermutation ys sorted) copied c.sort_by_key.ensures.permutation in
    record {
      sorted = c.requires;
      least_is = record {
        sorted = c.in_ok-least.ensures.sorted;
        serves = serves-moved side.Least all turned c.in_ok-least.least.items (IsPermutation-trans all sorted turned by_number c.reverse.ensures.permutation)
            (subst (λ (ys : List Carried). Serves side.Least ys (either c.in_ok-least.least.items ys)) c.as_slice-3.ensures.value c.in_ok-least.ensures.serves);
      };
      greatest_is = record {
        sorted = c.in_ok-greatest.ensures.sorted;
        serves = serves-moved side.Greatest all sorted c.in_ok-greatest.greatest.items by_number
            (subst (λ (ys : List Carried). Serves side.Greatest ys (either c.in_ok-greatest.greatest.items ys)) c.as_slice-2.ensures.value c.in_ok-greatest.ensures.serves);
      };
    }

pub returns-clause-kept : goal.returns-clause-kept
returns-clause-kept c = λ y there.
    let all = c.args.by_version.items in
    let sorted = c.sort_by_key.new.self.items in
    let turned = c.reverse.new.self.items in
    let copied : c.in_ok-by_number.by_number.items ≡ all = c.in_ok-by_number.ensures.items ∙ c.as_slice.ensures.value in
    let by_number : IsPermutation all sorted = subst (λ (ys : List Carried). IsPermutation ys sorted) copied c.sort_by_key.ensures.permutation in
    let by_turned : IsPermutation all turned = IsPermutation-trans all sorted turned by_number c.reverse.ensures.permutation in
    elim there as (λ _. Contains all y) [
      | inl here ↦ here
      | inr side ↦ elim side as (λ _. Contains all y) [
        | inl least ↦ Contains-permutation turned all y (IsPermutation-sym all turned by_turned)
            (subst (λ (ys : List Carried). Contains ys y) c.as_slice-3.ensures.value (c.in_ok-least.ensures.part y least))
        | inr greatest ↦ Contains-permutation sorted all y (IsPermutation-sym all sorted by_number)
            (subst (λ (ys : List Carried). Contains ys y) c.as_slice-2.ensures.value (c.in_ok-greatest.ensures.part y greatest))
      ]
    ]
