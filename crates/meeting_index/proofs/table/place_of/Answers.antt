-- Shares rise.
use Rattle.std.proofs.Common.{rules, nat_lt}
use Rattle.std.proofs.lemmas.List.Sorted.{IsPartitionPoint-from_clause, IsPartitionedBy-ltb}
use Rattle.meeting_index.specs.Named.{share_of}
use Rattle.meeting_index.proofs.Shares.{rises-share}
use Rattle.meeting_index.proofs.table.place_of.Goals as goal

pub returns : goal.returns
returns c = record {
  within = c.partition_point.ensures.bound;
  point = IsPartitionPoint-from_clause (λ x. nat_lt (share_of x) c.args.share) _ _ c.partition_point.ensures.partitioned
      (IsPartitionedBy-ltb share_of c.args.names.now c.args.share (rises-share c.args.names.now c.requires)) (λ a r q k. search rules);
}
