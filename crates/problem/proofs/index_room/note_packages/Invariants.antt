use Rattle.std.proofs.Common.{map}
use Rattle.resolver_model.specs.Problems.{package_of}
use Rattle.problem.proofs.Filling.{IsNotedSoFar}
use Rattle.problem.proofs.index_room.note_packages.Given as goal

abbrev pub invariant-loop-version : goal.invariant-loop-version
invariant-loop-version l = IsNotedSoFar l.dep l.initial.lists l.lists (map (package_of l.parts) l.versions) l.version-index
