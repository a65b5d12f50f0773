use Rattle.std.proofs.Common.{◌≡◌, length, take}
use Rattle.broken_deps.specs.Places.{AreNoted}
use Rattle.broken_deps.proofs.installed.places_of.Given as goal

abbrev pub invariant-loop-choice : goal.invariant-loop-choice
invariant-loop-choice l = (length l.places ≡ 1024) × AreNoted l.problem l.places (take l.choice-index l.choice-items)
