use Rattle.std.proofs.Common.{◌≡◌, ◌++◌, take}
use Rattle.std.specs.List.{flat_map}
use Rattle.dialogue.specs.Texts.{choice_line}
use Rattle.dialogue.proofs.choices.append_choices.Given as goal

abbrev pub invariant-loop-choice : goal.invariant-loop-choice
invariant-loop-choice l =
    l.text.items ≡ l.fn.text.items ++ flat_map (choice_line l.fn.universe l.fn.problem) (take l.choice-index l.set)
