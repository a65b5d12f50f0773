-- What is not behind a name stands in front.
use Rattle.std.proofs.Common.{rules}
use Rattle.std.proofs.lemmas.List.Sorted.{IsPartitionPoint-from_clause}
use Rattle.std.specs.Ordering.{is_le}
use Rattle.meeting_index.specs.Named.{named_order}
use Rattle.meeting_index.proofs.NamedRuns.{parted-le}
use Rattle.meeting_index.proofs.table.count_of.Goals as goal

pub returns-clause-point : goal.returns-clause-point
returns-clause-point c =
    IsPartitionPoint-from_clause (λ x. is_le (named_order x c.args.sought.now)) _ _ c.partition_point.ensures.partitioned (parted-le c.args.sought.now c.args.names.now c.requires) (λ a r q k. search rules)
