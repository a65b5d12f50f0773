-- Lists of names, and how their numbers are found.
use Rattle.std.specs.Prelude.{◌≡◌, ◌<◌, ◌-◌, ℕ, Bool, List, [], ◌∷◌, ◌++◌, length, nat_eq, if◌then◌else◌, slice_index_or, Option, Some, None}
use Rattle.std.specs.List.{list_any, position}
use Rattle.std.specs.Map.{lookup}
use Rattle.std.specs.Global.{Vec}
use Rattle.ascii.specs.Texts.{is_same}
use Rattle.universe_parts.specs.Hashes.{share_of}

-- a name is added at the end, unless it is there
abbrev pub with_name : List (List ℕ) → List ℕ → List (List ℕ)
with_name names name = if list_any (is_same name) names then names else names ++ name ∷ []

-- ---- numbers by shares of the hashes

-- what stands in the slot of a name: 0, or 1 more than the number of the first name in its share
abbrev pub slot_at : List ℕ → List ℕ → ℕ
slot_at slots name = slice_index_or slots (share_of name) 0

-- the number that a slot has
abbrev pub first_in : ℕ → Option ℕ
first_in slot = if nat_eq slot 0 then None else Some (slot - 1)

-- whether a name that is kept has these bytes
abbrev pub is_key : List ℕ → Vec ℕ → Bool
is_key name key = is_same name key.items

-- the number of a name, which is that of the first one in its share, or stands among the others
abbrev pub number_from : List (List ℕ) → List (Vec ℕ × ℕ) → List ℕ → Option ℕ → Option ℕ
number_from names others name None = None
number_from names others name (Some first) = if is_same name (slice_index_or names first []) then Some first else lookup (is_key name) others

abbrev pub number_in : List (List ℕ) → List ℕ → List (Vec ℕ × ℕ) → List ℕ → Option ℕ
number_in names slots others name = number_from names others name (first_in (slot_at slots name))

-- each name is found with its number, if it has one, and no name stands twice
pub record AreNumbered (names : List (List ℕ)) (slots : List ℕ) (others : List (Vec ℕ × ℕ)) : Type 0 where
  pub at : (name : List ℕ) → number_in names slots others name ≡ position (is_same name) names
  pub within : (name : List ℕ) (n : ℕ) → first_in (slot_at slots name) ≡ Some n → n < length names
  pub apart : (name : List ℕ) (n : ℕ) → lookup (is_key name) others ≡ Some n → position (is_same name) names ≡ Some n
  pub own : (n : ℕ) → n < length names → position (is_same (slice_index_or names n [])) names ≡ Some n
