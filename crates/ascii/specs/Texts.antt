-- Texts, as lists of bytes, and tests on their bytes.
use Rattle.std.specs.Prelude.{ℕ, Bool, false, ◌&&◌, List, [], ◌∷◌, length, drop, nat_eq, nat_lt}
use Rattle.std.specs.List.{list_all, filter, prefix_len, slice_split}
use Rattle.std.specs.Cmp.Lexicographic.{pointwise}
use Rattle.ascii.specs.Bytes.{is_space}

-- whether two texts have the same bytes
abbrev pub is_same : List ℕ → List ℕ → Bool
is_same a b = pointwise nat_eq a b

-- whether the first byte passes
abbrev pub begins : (ℕ → Bool) → List ℕ → Bool
begins test [] = false
begins test (byte ∷ bytes) = test byte

-- one byte or more, each of which passes
abbrev pub is_some_of : (ℕ → Bool) → List ℕ → Bool
is_some_of test text = nat_lt 0 (length text) && list_all test text

-- what stands behind the longest front whose bytes pass
abbrev pub behind : (ℕ → Bool) → List ℕ → List ℕ
behind test text = drop (prefix_len test text) text

abbrev pub is_some_text : List ℕ → Bool
is_some_text text = nat_lt 0 (length text)

-- the words of a text, between spaces and tabs
abbrev pub words : List ℕ → List (List ℕ)
words text = filter is_some_text (slice_split is_space text)
