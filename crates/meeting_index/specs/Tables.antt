-- What a table of names in order has.
use Rattle.std.specs.Prelude.{ℕ, List}
use Rattle.meeting_index.specs.Named.{numbers_in}
use Rattle.meeting_index.specs.declared.table.SortedNumbers.{SortedNumbers}

-- the numbers at the name with these bytes
abbrev pub sorted_at : SortedNumbers → List ℕ → List ℕ
sorted_at table bytes = numbers_in table.names.items bytes
