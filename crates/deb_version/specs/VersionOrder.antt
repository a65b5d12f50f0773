-- The order of versions (Debian Policy 5.6.12): by epoch, then by upstream version, then by revision.
use Rattle.std.specs.Prelude.{◌≡◌, ℕ, zero, suc, ◌+◌, Bool, true, cond, not, List, [], ◌∷◌, ◌++◌, map, length, drop, ◌==◌, ℤ, pos, negsuc, take_while}
use Rattle.std.specs.List.{prefix_len}
use Rattle.std.specs.Char.{is_ascii_digit, is_ascii_alphabetic}
use Rattle.std.specs.declared.cmp.Ordering.{Ordering}
use Rattle.std.specs.declared.cmp.Ordering.TheVariants.{Equal}
use Rattle.std.specs.Ordering.{nat_cmp, int_cmp, ordering_then, ordering_reverse, is_le}
pub use Rattle.ascii.specs.Decimals.{number}
use Rattle.deb_version.specs.Versions.{Parts}

-- where a byte that is no digit stands: '~' before the end of the text, which counts 0, then letters, then all other bytes
abbrev pub rank : ℕ → ℤ
rank byte = cond (byte == 126) (negsuc 0) (cond (is_ascii_alphabetic byte) (pos byte) (pos (byte + 256)))

abbrev pub is_word_byte : ℕ → Bool
is_word_byte byte = not (is_ascii_digit byte)

-- a turn takes from the front of a part the longest run without digits, the word, and then the longest run of digits
abbrev pub word_of : List ℕ → List ℕ
word_of part = take_while is_word_byte part

abbrev pub behind_word : List ℕ → List ℕ
behind_word part = drop (prefix_len is_word_byte part) part

abbrev pub digits_of : List ℕ → List ℕ
digits_of part = take_while is_ascii_digit (behind_word part)

abbrev pub behind_digits : List ℕ → List ℕ
behind_digits part = drop (prefix_len is_ascii_digit (behind_word part)) (behind_word part)

-- The key of a part: for each turn the ranks of its word, then 0, then its number. There are at most `turns` turns.
abbrev pub key_by_turns : ℕ → List ℕ → List ℤ
key_by_turns zero part = []
key_by_turns (suc turns) [] = []
key_by_turns (suc turns) (byte ∷ bytes) =
    map rank (word_of (byte ∷ bytes)) ++ (pos 0 ∷ pos (number (digits_of (byte ∷ bytes))) ∷ key_by_turns turns (behind_digits (byte ∷ bytes)))

-- each turn takes a byte or more, so there are no more turns than bytes
abbrev pub key : List ℕ → List ℤ
key part = key_by_turns (length part) part

-- keys are compared place by place, and a place past the end counts as 0
abbrev pub key_order : List ℤ → List ℤ → Ordering
key_order [] [] = Equal
key_order [] (y ∷ ys) = ordering_then (int_cmp (pos 0) y) (key_order [] ys)
key_order (x ∷ xs) [] = ordering_then (int_cmp x (pos 0)) (key_order xs [])
key_order (x ∷ xs) (y ∷ ys) = ordering_then (int_cmp x y) (key_order xs ys)

-- the rank at a place of a word, and 0 past its end
abbrev pub rank_at : List ℕ → ℕ → ℤ
rank_at [] place = pos 0
rank_at (byte ∷ bytes) zero = rank byte
rank_at (byte ∷ bytes) (suc place) = rank_at bytes place

abbrev pub part_order : List ℕ → List ℕ → Ordering
part_order a b = key_order (key a) (key b)

-- a missing revision is '0'
abbrev pub revision_or_zero : List ℕ → List ℕ
revision_or_zero [] = 48 ∷ []
revision_or_zero (byte ∷ bytes) = byte ∷ bytes

-- a missing epoch is 0
abbrev pub version_order : Parts → Parts → Ordering
version_order a b =
    ordering_then (nat_cmp (number a.epoch) (number b.epoch))
    (ordering_then (part_order a.upstream b.upstream) (part_order (revision_or_zero a.revision) (revision_or_zero b.revision)))

-- an order that compares any two values, the same from both sides
pub record IsTotalPreorder {K : Type 0} (order : K → K → Ordering) : Type 0 where
  pub reflexive : (x : K) → order x x ≡ Equal
  pub transitive : (x y z : K) → is_le (order x y) ≡ true → is_le (order y z) ≡ true → is_le (order x z) ≡ true
  pub total : (x y : K) → order x y ≡ ordering_reverse (order y x)
