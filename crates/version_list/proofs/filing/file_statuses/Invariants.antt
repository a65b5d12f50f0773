use Rattle.std.proofs.Common.{map, take}
use Rattle.universe_parts.specs.Listed.{stanza_read}
use Rattle.version_list.specs.Rows.{AreRows, of_status}
use Rattle.version_list.proofs.filing.file_statuses.Given as goal

-- those so far are filed
abbrev pub invariant-loop-read : goal.invariant-loop-read
invariant-loop-read l = AreRows (of_status (map stanza_read (take l.read-index l.status))) l.names l.rows.items
