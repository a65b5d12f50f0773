use Rattle.std.proofs.Common.{◌≡◌, ◌||◌, ℕ, take}
use Rattle.lists.specs.Sets.{has}
use Rattle.meeting_index.proofs.targets.add_each.Given as goal

-- what was there, and the numbers so far
abbrev pub invariant-loop-number : goal.invariant-loop-number
invariant-loop-number l = (c : ℕ) → has l.numbers.items c ≡ (has l.initial.numbers.items c || has (take l.number-index l.found) c)
