use Rattle.std.proofs.Common.{◌≡◌, length}
use Rattle.meeting_index.specs.Starts.{StartFirst}
use Rattle.meeting_index.proofs.table.starts_of.Given as goal

-- where the shares so far begin
abbrev pub invariant-loop-share : goal.invariant-loop-share
invariant-loop-share l = record {
  count : length l.starts.items ≡ l.share;
  first : StartFirst l.names l.starts.items l.share;
}
