-- The words SEED:COUNT of a generated universe.
use Rattle.std.specs.Prelude.{ℕ, ◌^◌, Bool, ◌&&◌, ◌||◌, not, ◌==◌, List, length, nat_lt, nat_le, Option, Some, None, if◌then◌else◌}
use Rattle.std.specs.List.{before_first, after_first, list_any}
use Rattle.std.specs.Char.{is_ascii_digit}
use Rattle.ascii.specs.Bytes.{is_byte, is_colon}
use Rattle.ascii.specs.Decimals.{number}
use Rattle.ascii.specs.Texts.{begins, is_some_of}

-- a number in decimal, without sign and without a leading zero
abbrev pub is_decimal : List ℕ → Bool
is_decimal digits = is_some_of is_ascii_digit digits && (length digits == 1 || not (begins (is_byte 48) digits))

-- a seed of 64 bits, and how many packages
abbrev pub is_seed : List ℕ → Bool
is_seed digits = is_decimal digits && nat_lt (number digits) (2 ^ 64)

-- how many packages: 1 to 50,000
abbrev pub is_count : List ℕ → Bool
is_count digits = is_decimal digits && (nat_le 1 (number digits) && nat_le (number digits) 50000)

abbrev pub sample : ℕ → ℕ → ℕ × ℕ
sample seed count = (seed, count)

-- the seed and the count of a text, if it is a seed, a colon and a count
abbrev pub sample_of : List ℕ → Option (ℕ × ℕ)
sample_of text =
    let seed = before_first is_colon text in
    let count = after_first is_colon text in
    if list_any is_colon text && (is_seed seed && is_count count) then Some (sample (number seed) (number count)) else None
