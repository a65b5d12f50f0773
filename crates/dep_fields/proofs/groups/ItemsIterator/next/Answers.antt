use Rattle.std.proofs.Common.{◌≡◌, Some, rules, length, sym, ap, ◌∙◌}
use Rattle.std.specs.Prelude.{Option, List, ℕ}
use Rattle.std.specs.Borrow.{Bor}
use Rattle.dep_fields.specs.Fields.{parts_left, bar, items_in}
use Rattle.dep_fields.specs.Relationships.{meaning}
use Rattle.dep_fields.proofs.Unmarked.{items_alone}
use Rattle.dep_fields.proofs.groups.ItemsIterator.next.Goals as goal

pub returns-in-Ok-clause-steps : goal.returns-in-Ok-clause-steps
returns-in-Ok-clause-steps c =
    let left : c.args.self.now.left ≡ Some c.in_ok-text.text = search rules in
    ap (λ (text : Option (Bor (List ℕ))). items_in (parts_left bar text)) left ∙ items_alone c.in_ok-text.text.now (meaning c.in-Ok.item) (sym c.in-Ok.ensures)

pub returns-in-Ok-clause-goes : goal.returns-in-Ok-clause-goes
returns-in-Ok-clause-goes c =
    let left : c.args.self.now.left ≡ Some c.in_ok-text.text = search rules in
    let steps = ap (λ (text : Option (Bor (List ℕ))). length (items_in (parts_left bar text))) left ∙ ap length (items_alone c.in_ok-text.text.now (meaning c.in-Ok.item) (sym c.in-Ok.ensures)) in
    search (rules, steps)
