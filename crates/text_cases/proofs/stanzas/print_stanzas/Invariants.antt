use Rattle.std.proofs.Common.{length}
use Rattle.text_cases.proofs.stanzas.print_stanzas.Given as goal

abbrev pub decreases-loop-paragraph : goal.decreases-loop-paragraph
decreases-loop-paragraph g l = length l.reader.text
