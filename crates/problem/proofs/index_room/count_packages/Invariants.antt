use Rattle.std.proofs.Common.{map}
use Rattle.resolver_model.specs.Problems.{package_of}
use Rattle.problem.proofs.Counting.{IsCountedSoFar}
use Rattle.problem.proofs.index_room.count_packages.Given as goal

abbrev pub invariant-loop-version : goal.invariant-loop-version
invariant-loop-version l = IsCountedSoFar l.initial.room l.room (map (package_of l.parts) l.versions) l.version-index
