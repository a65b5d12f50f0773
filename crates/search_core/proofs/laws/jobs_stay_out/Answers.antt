use Rattle.search_core.proofs.Legality.{IsOut-kept}
use Rattle.search_core.proofs.laws.jobs_stay_out.Goals as goal

pub returns : goal.returns
returns c = IsOut-kept
