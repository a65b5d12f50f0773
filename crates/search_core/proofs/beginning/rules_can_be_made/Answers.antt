use Rattle.search_core.proofs.Begins.{MayBegin-none, MayBegin-mark, MayBegin-cap}
use Rattle.search_core.proofs.beginning.rules_can_be_made.Goals as goal

pub returns-clause-none : goal.returns-clause-none
returns-clause-none c = MayBegin-none

pub returns-clause-mark : goal.returns-clause-mark
returns-clause-mark c = MayBegin-mark

pub returns-clause-cap : goal.returns-clause-cap
returns-clause-cap c = MayBegin-cap
