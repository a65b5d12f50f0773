-- The bytes of what is printed.
use Rattle.std.specs.Prelude.{ℕ, Bool, ◌||◌, ◌==◌}
use Rattle.std.specs.Char.{is_ascii_graphic}

-- a visible byte of ASCII, a space or a newline: no other control byte, and none past 126
abbrev pub is_printed : ℕ → Bool
is_printed byte = is_ascii_graphic byte || (byte == 32 || byte == 10)
