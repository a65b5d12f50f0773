use Rattle.std.proofs.Common.{◌≡◌, List, length, map, take}
use Rattle.universe_model.specs.Reading as reading
use Rattle.universe_parts.specs.Listed.{stanza_read}
use Rattle.version_list.specs.Rows.{AreRows, of_status}
use Rattle.version_list.proofs.filing.file_packages.Given as goal

-- those so far are filed
abbrev pub invariant-loop-read : goal.invariant-loop-read
invariant-loop-read l = record {
  rows_of_names : length l.rows.items ≡ length l.names;
  filed : (status : List reading.ReadStanza) → AreRows (of_status status) l.fn.names l.fn.rows.items
      → AreRows (record { status = status; packages = map stanza_read (take l.read-index l.packages) }) l.names l.rows.items;
}
