-- Carriers in order stand in the order of their versions.
use Rattle.std.proofs.Common.{rules}
use Rattle.std.proofs.lemmas.List.Sorted.{IsPartitionPoint-from_clause}
use Rattle.std.specs.Ordering.{is_le}
use Rattle.deb_version.specs.VersionOrder.{version_order}
use Rattle.meeting_index.specs.Fitting.{carried_parts, version_parts}
use Rattle.meeting_index.proofs.CrowdRanges.{parted-not_later}
use Rattle.meeting_index.proofs.ranges.not_later.Goals as goal

pub returns-clause-point : goal.returns-clause-point
returns-clause-point c =
    IsPartitionPoint-from_clause (λ y. is_le (version_order (carried_parts y) (version_parts c.args.version.now))) _ _ c.partition_point.ensures.partitioned
    (parted-not_later (version_parts c.args.version.now) c.args.list.now c.requires) (λ a r q k. search rules)
