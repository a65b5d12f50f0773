use Rattle.std.proofs.Common.{◌≡◌, take}
use Rattle.std.specs.List.{filter}
use Rattle.resolver_model.specs.Problems.{is_open}
use Rattle.broken_deps.specs.Opening.{candidates}
use Rattle.broken_deps.proofs.open_candidates.Given as goal

abbrev pub invariant-loop-choice : goal.invariant-loop-choice
invariant-loop-choice l = l.list.items ≡ filter (is_open l.problem l.set) (candidates l.problem (take l.choice-index l.choice-items))
