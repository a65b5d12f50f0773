use Rattle.std.proofs.Common.{◌≡◌, ◌*◌, ◌++◌, drop, length}
use Rattle.cost_vector.specs.Additions.{parts_with}
use Rattle.cost_vector.specs.Rows.{levels_of}
use Rattle.cost_vector.proofs.table.parts_with.Given as goal

abbrev pub invariant-loop-place : goal.invariant-loop-place
invariant-loop-place l = record {
  parts : l.more.items ++ parts_with (levels_of l.choices (drop l.place l.kinds) l.rest) (drop l.place l.parts) l.choice ≡ parts_with (levels_of l.choices l.kinds l.amounts) l.parts l.choice;
  rest : length l.rest ≡ length (drop l.place l.kinds) * l.choices;
}
