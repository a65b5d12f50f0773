use Rattle.std.proofs.Common.{◌≡◌, ◌||◌, [], ◌∷◌, false, length, ap, sym, ◌∙◌}
use Rattle.std.specs.List.{list_any}
use Rattle.stanza.specs.Names.{letter_of, only, spells, told_by}
use Rattle.stanza.proofs.Found.{none_spelled}
use Rattle.stanza.proofs.names.FieldName.of.Goals as goal

pub returns-in_default : goal.returns-in_default
returns-in_default c =
    let name = c.args.name.now in
    let told : told_by (length name) (letter_of name) ≡ [] = ap (told_by (length name)) (sym c.fourth_letter.ensures) ∙ sym c.told_by.ensures ∙ ap only c.in_default.is in
    none_spelled name (ap (list_any (spells name)) told)

pub returns-else-is_spelled : goal.returns-else-is_spelled
returns-else-is_spelled c =
    let name = c.args.name.now in
    let field = c.in-Some.field in
    let told : told_by (length name) (letter_of name) ≡ field ∷ [] = ap (told_by (length name)) (sym c.fourth_letter.ensures) ∙ sym c.told_by.ensures ∙ ap only c.in-Some.is in
    let other : spells name field ≡ false = sym c.is_spelled.ensures ∙ c.if-is_spelled.false in
    none_spelled name (ap (list_any (spells name)) told ∙ ap (λ b. b || false) other)
