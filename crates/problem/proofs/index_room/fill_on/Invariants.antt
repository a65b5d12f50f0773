use Rattle.lists.specs.Sets.{has}
use Rattle.resolver_model.specs.Problems.{dependency, version_count}
use Rattle.problem.proofs.Filling.{IsFilledTo}
use Rattle.problem.proofs.index_room.fill_on.Given as goal

abbrev pub invariant-loop-dep : goal.invariant-loop-dep
invariant-loop-dep l = IsFilledTo (λ k d. has (dependency l.parts d).targets k) (version_count l.parts) l.dep l.initial.lists l.lists
