use Rattle.std.proofs.Common.{◌≡◌, ◌++◌, take}
use Rattle.std.specs.List.{flat_map}
use Rattle.dialogue.specs.Texts.{mark_line}
use Rattle.dialogue.proofs.choices.append_marks.Given as goal

abbrev pub invariant-loop-marked : goal.invariant-loop-marked
invariant-loop-marked l =
    l.text.items ≡ l.fn.text.items ++ flat_map (mark_line l.fn.universe l.fn.problem) (take l.marked-index l.marked-items)
