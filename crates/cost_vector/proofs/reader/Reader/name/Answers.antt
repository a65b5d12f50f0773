use Rattle.std.proofs.Common.{◌∙◌, sym}
use Rattle.cost_vector.proofs.Readings.{name_at_none, name_at_max, name_at}
use Rattle.cost_vector.proofs.reader.Reader.name.Goals as goal

pub returns-then-not-at_letter : goal.returns-then-not-at_letter
returns-then-not-at_letter c = name_at_none _ _ _ c.spaces.ensures (sym c.at_letter.ensures ∙ c.if-not-at_letter.true)

pub returns-then-is_max : goal.returns-then-is_max
returns-then-is_max c = name_at_max _ _ _ _ _ c.spaces.ensures (sym c.at_letter.ensures ∙ c.if-not-at_letter.false) c.word-word.ensures (sym c.is_max.ensures ∙ c.if-is_max.true)

pub returns : goal.returns
returns c = rw c.in_ok-name.ensures (name_at _ _ _ _ _ _ _ c.spaces.ensures (sym c.at_letter.ensures ∙ c.if-not-at_letter.false) c.word-word.ensures (sym c.is_max.ensures ∙ c.if-is_max.false) c.spaces-2.ensures)
