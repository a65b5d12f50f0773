use Rattle.std.proofs.Common.{◌≡◌, Some, None, true, get_or, set, arith, rules, subst, sym}
use Rattle.control_file.specs.Text.{FieldText}
use Rattle.stanza.specs.declared.names.FieldName.{FieldName}
use Rattle.stanza.specs.Found.{slot_text, slot_behind}
use Rattle.stanza.specs.Names.{number, spelling, spells}
use Rattle.stanza.proofs.Found.{first_kept}
use Rattle.stanza.proofs.slots.Slots.keep.Goals as goal

pub returns-then-is_none : goal.returns-then-is_none
returns-then-is_none c =
    let fields = c.args.self.now.fields in
    let found = c.in-Some.name in
    let kept = c.field.result in
    let Spelled : FieldText → Type 0 = λ text. spells text.name found ≡ true in
    let Kept : FieldText → Type 0 = λ text. (name : FieldName) → slot_text (get_or (set fields (number found) (Some kept)) (number name) None)
    ≡ slot_behind (spelling name) text (slot_text (get_or fields (number name) None)) in
    rw c.number.ensures.number (subst Kept c.field.ensures (first_kept fields kept found c.get.result (omega (arith, c.args.self.now.whole, c.number.ensures.number, c.number.ensures.within))
    (subst Spelled (sym c.field.ensures) c.in-Some.ensures) c.get.ensures (search rules)))
