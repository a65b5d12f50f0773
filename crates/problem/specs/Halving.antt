-- A number that is wanted only before an end.
use Rattle.std.specs.Prelude.{ℕ, Option, Some, None, if◌then◌else◌, nat_lt}

-- the number, if there is one and it is before the end
abbrev pub if_before : ℕ → Option ℕ → Option ℕ
if_before end None = None
if_before end (Some n) = if nat_lt n end then Some n else None
