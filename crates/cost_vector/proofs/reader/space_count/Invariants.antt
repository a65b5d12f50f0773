use Rattle.std.proofs.Common.{◌≡◌, ℕ, ◌<◌, get_or, true}
use Rattle.cost_vector.specs.Reading.{is_byte}
use Rattle.cost_vector.proofs.reader.space_count.Given as goal

abbrev pub invariant-loop-place : goal.invariant-loop-place
invariant-loop-place l = (k : ℕ) → k < l.place → is_byte 32 (get_or l.text k 0) ≡ true
