-- Sorted names have the same numbers at each name.
use Rattle.meeting_index.proofs.NamedRuns.{any-permuted}
use Rattle.meeting_index.proofs.table.SortedNumbers.new.Goals as goal

pub returns : goal.returns
returns c = any-permuted c.args.names.items c.sort_unstable.new.self.items c.sort_unstable.ensures.permutation
