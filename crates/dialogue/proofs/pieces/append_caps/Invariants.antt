use Rattle.std.proofs.Common.{◌≡◌, ◌++◌, take}
use Rattle.std.specs.List.{flat_map}
use Rattle.dialogue.specs.Texts.{cap_line}
use Rattle.dialogue.proofs.pieces.append_caps.Given as goal

abbrev pub invariant-loop-cap : goal.invariant-loop-cap
invariant-loop-cap l = l.text.items ≡ l.fn.text.items ++ flat_map cap_line (take l.cap-index l.cap-items)
