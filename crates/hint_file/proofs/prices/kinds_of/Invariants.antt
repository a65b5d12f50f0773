use Rattle.std.proofs.Common.{◌≡◌, map, take}
use Rattle.cost_vector.specs.declared.cost_spec.Level.{Level}
use Rattle.hint_file.proofs.prices.kinds_of.Given as goal

abbrev pub invariant-loop-level : goal.invariant-loop-level
invariant-loop-level l = l.kinds.items ≡ map (λ (level : Level). level.greatest) (take l.level-index l.levels)
