-- A sort moves carriers, and of those that are equal one stays.
use Rattle.std.proofs.Common.{◌∙◌, ap, sym, subst, List}
use Rattle.std.proofs.lemmas.List.Filters.{dedup_is}
use Rattle.std.proofs.lemmas.List.Kept.{Contains-from_dedup}
use Rattle.std.proofs.lemmas.List.Sorted.{Contains-permutation, IsPermutation-sym}
use Rattle.std.specs.List.{Contains}
use Rattle.std.specs.List.Sorted.{IsSorted}
use Rattle.std.specs.Ordering.{is_eq}
use Rattle.meeting_index.specs.Fitting.{carried_order, has_fitting}
use Rattle.meeting_index.specs.declared.carried.Carried.{Carried}
use Rattle.meeting_index.proofs.CrowdLaws.{fitting-dedup, fitting-moved}
use Rattle.meeting_index.proofs.CrowdRanges.{sorted-dedup}
use Rattle.meeting_index.proofs.members.put_in_order.Goals as goal

pub returns-clause-fitting : goal.returns-clause-fitting
returns-clause-fitting c =
    λ bound number.
    ap (λ ys. has_fitting ys bound number) (dedup_is _ _ _ c.dedup.ensures.filtered)
    ∙ fitting-dedup c.sort_unstable.new.self.items bound number
    ∙ fitting-moved c.args.list.now.items c.sort_unstable.new.self.items c.sort_unstable.ensures.permutation bound number

pub returns-clause-sorted : goal.returns-clause-sorted
returns-clause-sorted c =
    subst (λ (ys : List Carried). IsSorted carried_order ys) (sym (dedup_is _ _ _ c.dedup.ensures.filtered))
    (sorted-dedup c.sort_unstable.new.self.items c.sort_unstable.ensures.sorted)

pub returns-clause-part : goal.returns-clause-part
returns-clause-part c = λ y there.
    Contains-permutation c.sort_unstable.new.self.items c.args.list.now.items y
    (IsPermutation-sym c.args.list.now.items c.sort_unstable.new.self.items c.sort_unstable.ensures.permutation)
    (Contains-from_dedup (λ a b. is_eq (carried_order a b)) c.sort_unstable.new.self.items y
    (subst (λ (ys : List Carried). Contains ys y) (dedup_is _ _ _ c.dedup.ensures.filtered) there))
