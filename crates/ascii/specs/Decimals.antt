-- Numbers that digits write.
use Rattle.std.specs.Prelude.{ℕ, List}
use Rattle.std.specs.Str.Parse.{digits_value}

-- the number that digits write, 0 where there are none
abbrev pub number : List ℕ → ℕ
number digits = digits_value 10 digits
