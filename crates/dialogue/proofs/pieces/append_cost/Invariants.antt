use Rattle.std.proofs.Common.{◌≡◌, ◌++◌, take}
use Rattle.dialogue.specs.Texts.{cost_text}
use Rattle.dialogue.proofs.pieces.append_cost.Given as goal

abbrev pub invariant-loop-part : goal.invariant-loop-part
invariant-loop-part l = l.text.items ≡ l.fn.text.items ++ cost_text (take l.part-index l.parts)
