use Rattle.std.proofs.Common.{length}
use Rattle.text_cases.proofs.relations.print_fields.Given as goal

abbrev pub decreases-loop-paragraph : goal.decreases-loop-paragraph
decreases-loop-paragraph g l = length l.reader.text
