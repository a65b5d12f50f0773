use Rattle.std.proofs.Common.{◌≡◌, ◌++◌, map, drop}
use Rattle.meeting_index.specs.Carriers.{is_named, own}
use Rattle.meeting_index.specs.Named.{numbers_in}
use Rattle.meeting_index.specs.Numbers.{numbers_from}
use Rattle.meeting_index.specs.Rows.{AreRows, numbers_by}
use Rattle.meeting_index.specs.declared.named.Name.{Name}
use Rattle.universe_model.specs.Lists.{map_from, numbers_of}
use Rattle.universe_parts.specs.Listed.{version_listed}
use Rattle.meeting_index.proofs.naming.name_versions.Given as goal

-- the numbers so far, and those to come, are all
abbrev pub invariant-loop-version : goal.invariant-loop-version
invariant-loop-version l = record {
  counted : l.number ≡ l.version-index;
  are : AreRows l.names l.rows.items;
  found : (name : Name) → numbers_by l.names l.rows.items (numbers_in l.others.items name.bytes.now) name.bytes.now ++ numbers_from l.version-index (is_named name.bytes.now) (map_from own l.version-index (map version_listed (drop l.version-index l.versions)))
      ≡ numbers_by l.names l.initial.rows.items (numbers_in l.initial.others.items name.bytes.now) name.bytes.now ++ numbers_of (is_named name.bytes.now) (map_from own 0 (map version_listed l.versions));
}
