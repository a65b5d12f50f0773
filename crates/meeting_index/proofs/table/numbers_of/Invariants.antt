use Rattle.std.proofs.Common.{◌≡◌, map, take}
use Rattle.meeting_index.specs.Named.{named_number}
use Rattle.meeting_index.proofs.table.numbers_of.Given as goal

-- the numbers so far
abbrev pub invariant-loop-name : goal.invariant-loop-name
invariant-loop-name l = l.numbers.items ≡ map named_number (take l.name-index l.names)
