use Rattle.std.proofs.Common.{◌≡◌, ◌<◌, ℕ, false, map, take, string_bytes}
use Rattle.wanted.specs.Wanting.{IsOf, actions_of, is_bad_at}
use Rattle.wanted.proofs.Wanted.read.Given as goal

-- no word so far is bad, and their actions are there
abbrev pub invariant-loop-place : goal.invariant-loop-place
invariant-loop-place l = record {
  read : l.wanted ≡ actions_of l.universe (take l.place (map string_bytes l.words));
  good : (k : ℕ) → k < l.place → is_bad_at l.universe (map string_bytes l.words) k ≡ false;
  own : IsOf l.universe l.wanted;
}
