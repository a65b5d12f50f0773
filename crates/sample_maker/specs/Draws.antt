-- Numbers drawn by a linear congruential generator, and the packages that they choose.
use Rattle.std.specs.Prelude.{◌≡◌, ◌<◌, ℕ, zero, suc, ◌+◌, ◌-◌, ◌*◌, ◌/◌, ◌%◌, ◌^◌, Bool, ◌&&◌, ◌==◌, nat_le, Option, Some, None, if◌then◌else◌}

-- the state behind the state x
abbrev pub next : ℕ → ℕ
next x = (x * 6364136223846793005 + 1442695040888963407) % 2 ^ 64

-- the state n draws behind the state x
abbrev pub state : ℕ → ℕ → ℕ
state x zero = x
state x (suc n) = next (state x n)

-- the number below m that is drawn in the state x, by the high 31 bits of the state behind it:
-- 8589934592 is 2 ^ 33
abbrev pub draw : ℕ → ℕ → ℕ
draw x m = (next x / 8589934592) % m

-- Packages stand in groups of ten, 0 to 9, 10 to 19 and so on. In the state x one draw chooses, for
-- the package i, one of those that stand before it in its group; the first of a group has none.
abbrev pub earlier : ℕ → ℕ → Option ℕ
earlier x i = if i % 10 == 0 then None else Some (i - 1 - draw x (i % 10))

-- how many draws that takes
abbrev pub earlier_draws : ℕ → ℕ
earlier_draws i = if i % 10 == 0 then 0 else 1

-- the package j stands before the package i in the same group
abbrev pub IsEarlierInGroup : ℕ → ℕ → Type 0
IsEarlierInGroup j i = (j < i) × (j / 10 ≡ i / 10)

-- Whether the package i, third or later in its group, is to have a conflict: one draw of four says so.
abbrev pub has_conflict : ℕ → ℕ → Bool
has_conflict x i = nat_le 2 (i % 10) && (draw x 4 == 0)

-- the package that i then conflicts with, by one further draw
abbrev pub conflict : ℕ → ℕ → Option ℕ
conflict x i = if has_conflict x i then earlier (next x) i else None

-- how many draws this takes, the one of four among them
abbrev pub conflict_draws : ℕ → ℕ → ℕ
conflict_draws x i = if has_conflict x i then 2 else if nat_le 2 (i % 10) then 1 else 0
