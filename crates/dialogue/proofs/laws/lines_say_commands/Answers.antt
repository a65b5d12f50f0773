use Rattle.dialogue.proofs.Sayings.{line-said}
use Rattle.dialogue.proofs.laws.lines_say_commands.Goals as goal

pub returns : goal.returns
returns c texts within p beside said has line same = line-said texts within p beside said has line same
