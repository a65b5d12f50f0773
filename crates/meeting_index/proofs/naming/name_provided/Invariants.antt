use Rattle.std.proofs.Common.{◌≡◌, ◌++◌, map, drop}
use Rattle.meeting_index.specs.Carriers.{is_named}
use Rattle.meeting_index.specs.Named.{numbers_in}
use Rattle.meeting_index.specs.Numbers.{numbers_from}
use Rattle.meeting_index.specs.Provided.{carrier_of}
use Rattle.meeting_index.specs.Rows.{AreRows, numbers_by}
use Rattle.meeting_index.specs.declared.named.Name.{Name}
use Rattle.meeting_index.proofs.naming.name_provided.Given as goal

-- the numbers so far, and those to come, are all
abbrev pub invariant-loop-item : goal.invariant-loop-item
invariant-loop-item l = record {
  are : AreRows l.names l.rows.items;
  found : (name : Name) → numbers_by l.names l.rows.items (numbers_in l.others.items name.bytes.now) name.bytes.now ++ numbers_from l.number (is_named name.bytes.now) (map carrier_of (drop l.item-index l.provided))
      ≡ numbers_by l.names l.initial.rows.items (numbers_in l.initial.others.items name.bytes.now) name.bytes.now ++ numbers_from l.first (is_named name.bytes.now) (map carrier_of l.provided);
}
