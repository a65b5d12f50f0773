use Rattle.control_file.proofs.Parts.{reading_stands}
use Rattle.control_file.proofs.names_and_values_are_parts.Goals as goal

pub returns : goal.returns
returns c text = reading_stands text
