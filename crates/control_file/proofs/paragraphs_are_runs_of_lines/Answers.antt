use Rattle.control_file.proofs.LinesInOrder.{paragraphs_are_runs}
use Rattle.control_file.proofs.paragraphs_are_runs_of_lines.Goals as goal

pub returns : goal.returns
returns c ls = paragraphs_are_runs ls
