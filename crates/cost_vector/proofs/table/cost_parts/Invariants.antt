use Rattle.std.proofs.Common.{◌≡◌, ◌*◌, ◌++◌, map, drop, length}
use Rattle.resolver_model.specs.Costs.{Level, level_cost}
use Rattle.cost_vector.specs.Rows.{levels_of}
use Rattle.cost_vector.proofs.table.cost_parts.Given as goal

abbrev pub invariant-loop-greatest : goal.invariant-loop-greatest
invariant-loop-greatest l = record {
  parts : l.parts.items ++ map (λ (level : Level). level_cost level l.set) (levels_of l.choices (drop l.greatest-index l.kinds) l.rest) ≡ map (λ (level : Level). level_cost level l.set) (levels_of l.choices l.kinds l.amounts);
  rest : length l.rest ≡ length (drop l.greatest-index l.kinds) * l.choices;
}
