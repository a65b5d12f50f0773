use Rattle.std.proofs.Common.{◌≡◌, ℕ, List, ◌+◌, subst, length, sym, ap, ◌∙◌, arith}
use Rattle.std.specs.Prelude.{Option}
use Rattle.std.specs.Borrow.{Bor}
use Rattle.dep_fields.specs.Fields.{parts_left, first_fault, bar}
use Rattle.dep_fields.proofs.Parts.{fault-here, Ends}
use Rattle.dep_fields.proofs.Unmarked.{sound_alone}
use Rattle.dep_fields.proofs.groups.cuts.check_items.Goals as goal

pub returns-in-Some-fault_of_part-clause-fault : goal.returns-in-Some-fault_of_part-clause-fault
returns-in-Some-fault_of_part-clause-fault c =
    let here = fault-here c.args.alternatives c.loop-left.place c.cut.result.0.now c.cut.result.1 c.is_none.result c.in-Some-fault_of_part.fault
    c.is_none.ensures (sym c.fault_of_part.ensures.fault ∙ c.in-Some-fault_of_part.is) in
    sym (sym c.loop-left.invariant.fault ∙ ap (first_fault c.args.alternatives c.loop-left.place) (ap (parts_left bar) c.in-Some.is ∙ c.cut.ensures.parts) ∙ here)

pub returns-in-Some-fault_of_part-clause-within : goal.returns-in-Some-fault_of_part-clause-within
returns-in-Some-fault_of_part-clause-within c =
    let P : Option (Bor (List ℕ)) → Type 0 = λ left. Ends c.loop-left.place (c.args.start + length c.args.text.now) left in
    let ends : c.loop-left.place + length c.in-Some.text.now ≡ c.args.start + length c.args.text.now = subst P c.in-Some.is c.loop-left.invariant.ends in
    omega (arith, c.in-Some-fault_of_part.ensures.within)

pub returns-in-Ok-clause-fault : goal.returns-in-Ok-clause-fault
returns-in-Ok-clause-fault c = sym (sound_alone c.args.alternatives c.args.start c.args.text.now _ (sym c.in-Ok.ensures))
