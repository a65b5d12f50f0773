use Rattle.search_core.proofs.Legality.{IsLegal-calls}
use Rattle.search_core.proofs.laws.calls_stay_legal.Goals as goal

pub returns : goal.returns
returns c = IsLegal-calls
