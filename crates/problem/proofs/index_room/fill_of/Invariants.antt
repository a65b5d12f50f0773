use Rattle.std.proofs.Common.{nat_eq}
use Rattle.resolver_model.specs.Problems.{dependency, version_count}
use Rattle.problem.proofs.Filling.{IsFilledTo}
use Rattle.problem.proofs.index_room.fill_of.Given as goal

abbrev pub invariant-loop-dep : goal.invariant-loop-dep
invariant-loop-dep l = IsFilledTo (λ k d. nat_eq (dependency l.parts d).source k) (version_count l.parts) l.dep l.initial.lists l.lists
