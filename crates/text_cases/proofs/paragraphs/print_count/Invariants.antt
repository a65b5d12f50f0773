use Rattle.std.proofs.Common.{length}
use Rattle.text_cases.proofs.paragraphs.print_count.Given as goal

abbrev pub decreases-loop-count : goal.decreases-loop-count
decreases-loop-count g l = length l.reader.text
