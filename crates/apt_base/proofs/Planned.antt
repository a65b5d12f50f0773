-- Calls of objects in memory.
use Rattle.std.proofs.Common.{◌≡◌, ℕ, ◌+◌, ◌<◌, ◌≤◌, min, Bool, true, false, cond, List, [], ◌++◌, length, take, drop, Some, Ok, Err, sym, ap, ◌∙◌, arith, length-drop, take-append-drop}
use Rattle.std.proofs.lemmas.Grind.{common_steps}
use Rattle.apt_base.specs.declared.calls.Failed.{Failed}
use Rattle.apt_base.specs.Bytes.{Takes}
use Rattle.apt_base.proofs.Cuts.{drop-drop-comm}

-- what a call moves that does not fail
pub planned_count : (fails : Bool) (e : Failed) (most count : ℕ) → Ok count ≡ cond fails (Err e) (Ok most) → count ≡ most
planned_count true e most count is = cc
planned_count false e most count is = cc

nothing_behind : (xs : List ℕ) (n : ℕ) → length xs ≤ n → drop n xs ≡ []
nothing_behind xs n past = grind (arith, common_steps)

-- a read of bytes in memory
pub takes_front : (bytes buffer : List ℕ) (start piece count : ℕ) → 0 < piece → count ≡ min piece (min (length buffer) (length (drop start bytes))) → take count buffer ≡ take count (drop start bytes) → Takes (Some (drop start bytes)) (Ok count) buffer (Some (drop (start + count) bytes))
takes_front bytes buffer start piece count some is copied = record {
  within = omega (arith, is);
  front = ap Some (sym (take-append-drop count (drop start bytes)) ∙ ap (λ f. f ++ drop count (drop start bytes)) (sym copied) ∙ ap (λ r. take count buffer ++ r) (drop-drop-comm start count bytes));
  at_end = λ room none. nothing_behind bytes (start + count) (omega (arith, some, is, none, room, length-drop start bytes));
}
