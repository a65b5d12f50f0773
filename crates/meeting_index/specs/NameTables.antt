-- What a table of names has.
use Rattle.std.specs.Prelude.{ℕ, List}
use Rattle.meeting_index.specs.Rows.{numbers_by}
use Rattle.meeting_index.specs.Tables.{sorted_at}
use Rattle.meeting_index.specs.declared.rows.NamedNumbers.{NamedNumbers}

-- the numbers at the name with these bytes
abbrev pub numbers_at : NamedNumbers → List ℕ → List ℕ
numbers_at table bytes = numbers_by table.names.now table.rows.items (sorted_at table.others bytes) bytes
