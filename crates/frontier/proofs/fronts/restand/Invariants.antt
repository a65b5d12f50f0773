use Rattle.std.proofs.Common.{◌≡◌, ℕ, length, ◌&&◌, not, nat_lt, cond}
use Rattle.frontier.specs.Slots.{slot_at, standing_of}
use Rattle.frontier.proofs.fronts.restand.Given as goal

abbrev pub invariant-loop-place : goal.invariant-loop-place
invariant-loop-place l =
    (length l.slots.items ≡ length l.initial.slots.items)
    × ((n : ℕ) → slot_at l.slots.items n ≡ cond (not (nat_lt n l.from) && nat_lt n l.place)
    (record (slot_at l.initial.slots.items n) { standing = standing_of l.problem l.rules l.given (slot_at l.initial.slots.items n) }) (slot_at l.initial.slots.items n))
