use Rattle.std.proofs.Common.{◌≡◌, ◌++◌, map, drop}
use Rattle.meeting_index.specs.Carriers.{all_provided, provided_by}
use Rattle.meeting_index.specs.Provided.{carrier_of}
use Rattle.universe_model.specs.Lists.{map_from}
use Rattle.universe_model.specs.Versions.{concat}
use Rattle.universe_parts.specs.Listed.{version_listed}
use Rattle.meeting_index.proofs.provided.list_provided.Given as goal

-- what is provided so far, and what is still to come, are all
abbrev pub invariant-loop-version : goal.invariant-loop-version
invariant-loop-version l = record {
  counted : l.number ≡ l.version-index;
  found : map carrier_of l.list.items ++ concat (map_from (provided_by l.native) l.version-index (map version_listed (drop l.version-index l.versions)))
      ≡ all_provided l.native (map version_listed l.versions);
}
