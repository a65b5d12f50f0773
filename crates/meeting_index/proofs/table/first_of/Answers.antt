-- What stands before a name stands in front.
use Rattle.std.proofs.Common.{rules}
use Rattle.std.proofs.lemmas.List.Sorted.{IsPartitionPoint-from_clause}
use Rattle.std.specs.Ordering.{is_lt}
use Rattle.meeting_index.specs.Named.{named_order}
use Rattle.meeting_index.proofs.NamedRuns.{parted-lt}
use Rattle.meeting_index.proofs.table.first_of.Goals as goal

pub returns-clause-point : goal.returns-clause-point
returns-clause-point c =
    IsPartitionPoint-from_clause (λ x. is_lt (named_order x c.args.sought.now)) _ _ c.partition_point.ensures.partitioned (parted-lt c.args.sought.now c.args.names.now c.requires) (λ a r q k. search rules)
