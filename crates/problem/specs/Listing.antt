-- Lists of dependencies by number, and what it is to note one more dependency in them.
use Rattle.std.specs.Prelude.{ℕ, ◌-◌, Bool, ◌&&◌, List, [], ◌∷◌, ◌++◌, length, slice_index, slice_index_or, nat_lt, ◌==◌, if◌then◌else◌, take, set}
use Rattle.std.specs.List.{fold}

abbrev pub ends_in : ℕ → List ℕ → Bool
ends_in d list = nat_lt 0 (length list) && (slice_index list (length list - 1) == d)

-- the list with a number at its end; one that ends in it already stays
abbrev pub with_end : ℕ → List ℕ → List ℕ
with_end d list = if ends_in d list then list else list ++ d ∷ []

-- the list without that end
abbrev pub without_end : ℕ → List ℕ → List ℕ
without_end d list = if ends_in d list then take (length list - 1) list else list

-- the list with this number ends in d
abbrev pub noted : ℕ → List (List ℕ) → ℕ → List (List ℕ)
noted d lists number = set lists number (with_end d (slice_index_or lists number []))

-- the lists with these numbers do
abbrev pub noted_all : ℕ → List (List ℕ) → List ℕ → List (List ℕ)
noted_all d lists numbers = fold (noted d) lists numbers
