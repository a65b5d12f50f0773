use Rattle.std.proofs.Common.{◌≡◌, drop, IsTrue}
use Rattle.lists.specs.Sets.{is_rising, is_subset}
use Rattle.choice_set.proofs.ChoiceSet.is_subset.Given as goal

-- what is left of the one list has to be in what is left of the other
abbrev pub invariant-loop-choice : goal.invariant-loop-choice
invariant-loop-choice l = (is_subset l.self l.of ≡ is_subset (drop l.choice-index l.few) l.rest) × IsTrue (is_rising l.few) × IsTrue (is_rising l.rest)
