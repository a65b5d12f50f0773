-- One more at the end is the last one.
use Rattle.std.proofs.Common.{◌≡◌, ◌∙◌, ap, subst, List, Some, inl, inr, ◌⊎◌}
use Rattle.std.specs.List.{Contains}
use Rattle.std.proofs.lemmas.List.Elements.{Contains-push_cases}
use Rattle.meeting_index.specs.declared.carried.Carried.{Carried}
use Rattle.meeting_index.proofs.sides.keep_last.Goals as goal

pub returns-clause-part : goal.returns-clause-part
returns-clause-part c = λ y there.
    elim (Contains-push_cases c.args.kept.now.items c.in-Some.last y (subst (λ (ys : List Carried). Contains ys y) c.in_ok-push.ensures.items there)) as (λ _. Contains c.args.kept.now.items y ⊎ (c.args.last ≡ Some y)) [
      | inl before ↦ inl before
      | inr same ↦ inr (c.in-Some.is ∙ ap (λ (x : Carried). Some x) same)
    ]
