use Rattle.std.proofs.Common.{◌≡◌, ℕ, true, List, sym, subst}
use Rattle.lists.specs.Sets.{is_disjoint}
use Rattle.resolver_model.specs.declared.marks.Mark.TheVariants.{Approved}
use Rattle.hint_effects.specs.Effects.{marked}
use Rattle.hint_effects.proofs.MarkedChoices.{marks-apart}
use Rattle.hint_effects.proofs.marking.rules_of.Goals as goal

pub of_marks-requires : goal.of_marks-requires
of_marks-requires c =
    subst (λ (list : List ℕ). is_disjoint list c.in_ok-rejected.rejected ≡ true) (sym c.in_ok-approved.ensures)
    (subst (λ (list : List ℕ). is_disjoint (marked c.args.problem.now c.args.hints.now Approved) list ≡ true) (sym c.in_ok-rejected.ensures)
    (marks-apart c.args.problem.now c.args.hints.now))
