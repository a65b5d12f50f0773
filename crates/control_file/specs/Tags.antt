-- Tags of names, by which those of a paragraph are told apart, and slots, in which they are marked.
use Rattle.std.specs.Prelude.{◌≡◌, ℕ, ◌+◌, ◌-◌, ◌*◌, ◌%◌, true, List, [], ◌∷◌, length, map, take, slice_index, nat_eq, slice_index_or}
use Rattle.std.specs.List.{list_all}
use Rattle.std.specs.Str.{str_to_ascii_lowercase}

abbrev pub tag_behind : ℕ → List ℕ → ℕ
tag_behind tag [] = tag
tag_behind tag (byte ∷ bytes) = tag_behind ((tag * 314159 + byte) % 17592186044416) bytes

-- the tag of a name, without regard to ASCII case
abbrev pub tag_of : List ℕ → ℕ
tag_of name = tag_behind 0 (str_to_ascii_lowercase name)

-- the first tags are those of the names
abbrev pub AreTagged : List ℕ → ℕ → List (List ℕ) → Type 0
AreTagged tags len names = take len tags ≡ map tag_of names

-- the slot of the names that begin and end with these bytes and have so many
abbrev pub slot_by : ℕ → ℕ → ℕ → ℕ
slot_by first last len = (first * 31 + last + len % 64 * 127) % 8192

abbrev pub slot_at : List ℕ → ℕ
slot_at bytes = slot_by (slice_index bytes 0) (slice_index bytes (length bytes - 1)) (length bytes)

-- the slot of a name, without regard to ASCII case, which many names share
abbrev pub slot_of : List ℕ → ℕ
slot_of name = slot_at (str_to_ascii_lowercase name)

-- the slots of names have a mark
abbrev pub AreMarked : List ℕ → ℕ → List (List ℕ) → Type 0
AreMarked marks mark names = list_all (λ name. nat_eq (slice_index_or marks (slot_of name) 0) mark) names ≡ true
