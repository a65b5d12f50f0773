-- Classes of bytes beside those of std: `is_ascii_digit` (0 to 9), `is_ascii_lowercase` (a to z) and their like.
use Rattle.std.specs.Prelude.{ℕ, Bool, ◌||◌, ◌==◌}

-- one byte alone
abbrev pub is_byte : ℕ → ℕ → Bool
is_byte mark byte = byte == mark

abbrev pub is_colon : ℕ → Bool
is_colon byte = byte == 58

abbrev pub is_hyphen : ℕ → Bool
is_hyphen byte = byte == 45

-- spaces and tabs
abbrev pub is_space : ℕ → Bool
is_space byte = byte == 32 || byte == 9
