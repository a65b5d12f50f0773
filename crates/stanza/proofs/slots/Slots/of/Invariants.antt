use Rattle.std.proofs.Common.{◌≡◌}
use Rattle.stanza.specs.declared.names.FieldName.{FieldName}
use Rattle.stanza.specs.Fields.{field_in}
use Rattle.stanza.specs.Found.{slot_of}
use Rattle.stanza.specs.Names.{spelling}
use Rattle.stanza.proofs.Found.{found_left}
use Rattle.stanza.proofs.slots.Slots.of.Given as goal

-- what was found, and what is left to be found, make the whole
abbrev pub invariant-loop-field : goal.invariant-loop-field
invariant-loop-field l = (name : FieldName) → found_left (slot_of l.slots name) name l.field-iterator ≡ field_in l.paragraph (spelling name)
