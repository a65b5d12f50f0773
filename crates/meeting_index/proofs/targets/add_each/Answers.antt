-- One more number.
use Rattle.std.proofs.Common.{◌∙◌, ap, sym, ◌||◌, nat_eq, get_or, take}
use Rattle.std.proofs.lemmas.List.Folds.{list_any_more}
use Rattle.lists.specs.Sets.{has}
use Rattle.meeting_index.proofs.CrowdLaws.{or-assoc}
use Rattle.meeting_index.proofs.targets.add_each.Goals as goal

pub loop-number-preserved : goal.loop-number-preserved
loop-number-preserved c = λ n.
    let found = c.args.found.now in
    let i = c.loop-number.number-index in
    let old = has c.args.numbers.now.items n in
    c.in_ok-add_once.ensures n
    ∙ ap (λ b. b || nat_eq (get_or found i 0) n) (c.loop-number.invariant n)
    ∙ or-assoc old (has (take i found) n) (nat_eq (get_or found i 0) n)
    ∙ ap (λ b. old || b) (sym (list_any_more (λ x. nat_eq x n) found i 0 c.loop-number-test.true))
