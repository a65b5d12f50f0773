use Rattle.std.proofs.Common.{◌≡◌, ◌++◌, map, take}
use Rattle.meeting_index.specs.Fitting.{carried_number}
use Rattle.meeting_index.proofs.crowd.add_numbers.Given as goal

-- the numbers so far
abbrev pub invariant-loop-carried : goal.invariant-loop-carried
invariant-loop-carried l = l.met.items ≡ l.initial.met.items ++ map carried_number (take l.carried-index l.list)
