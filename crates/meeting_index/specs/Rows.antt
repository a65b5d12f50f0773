-- What stands at the names of packages, and at other names.
use Rattle.std.specs.Prelude.{◌≡◌, ◌<◌, ℕ, List, [], map, length, true, nat_lt, slice_index_or, Option, Some, None}
use Rattle.std.specs.List.{position}
use Rattle.ascii.specs.Texts.{is_same}
use Rattle.meeting_index.specs.declared.rows.NumberRow.{NumberRow}

abbrev pub row_numbers : NumberRow → List ℕ
row_numbers row = row.numbers.items

-- those of a package, by its number, or what stands at a name that no package has
abbrev pub chosen : List (List ℕ) → List ℕ → Option ℕ → List ℕ
chosen numbers others None = others
chosen numbers others (Some number) = slice_index_or numbers number []

abbrev pub numbers_by : List (List ℕ) → List NumberRow → List ℕ → List ℕ → List ℕ
numbers_by names rows others bytes = chosen (map row_numbers rows) others (position (is_same bytes) names)

-- each name has a row, and where that has numbers it has the name
pub record AreRows (names : List (List ℕ)) (rows : List NumberRow) : Type 0 where
  pub long : length rows ≡ length names
  pub bytes : (number : ℕ) (d : NumberRow) → number < length rows → nat_lt 0 (length (slice_index_or rows number d).numbers.items) ≡ true
      → (slice_index_or rows number d).bytes.now ≡ slice_index_or names number []
