use Rattle.std.proofs.Common.{◌≡◌, map, take}
use Rattle.requirement_list.specs.Answers.{bare}
use Rattle.requirement_list.proofs.walk.list_owners.Given as goal

-- the packages so far
abbrev pub invariant-loop-package : goal.invariant-loop-package
invariant-loop-package l = l.listed ≡ map bare (take l.package-index l.packages)
