use Rattle.std.proofs.Common.{◌≡◌, take, true}
use Rattle.cost_vector.specs.Grammar.{is_small, decimal_value}
use Rattle.cost_vector.proofs.reader.number_at.Given as goal

abbrev pub invariant-loop-place : goal.invariant-loop-place
invariant-loop-place l = record {
  value : l.value ≡ decimal_value (take l.place l.text);
  small : is_small (take l.place l.text) ≡ true;
}
