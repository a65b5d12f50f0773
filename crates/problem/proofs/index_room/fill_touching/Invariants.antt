use Rattle.resolver_model.specs.Problems.{package_count}
use Rattle.problem.specs.Touching.{touches}
use Rattle.problem.proofs.Filling.{IsFilledTo}
use Rattle.problem.proofs.index_room.fill_touching.Given as goal

abbrev pub invariant-loop-dep : goal.invariant-loop-dep
invariant-loop-dep l = IsFilledTo (touches l.parts) (package_count l.parts) l.dep l.initial.lists l.lists
