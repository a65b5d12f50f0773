use Rattle.std.proofs.Common.{◌≡◌, take, false, []}
use Rattle.std.specs.List.{list_any}
use Rattle.resolver_model.specs.Problems.{is_in_state}
use Rattle.problem.proofs.parts.Parts.is_any_start.Given as goal

abbrev pub invariant-loop-version : goal.invariant-loop-version
invariant-loop-version l = list_any (is_in_state l.self []) (take l.version-index l.versions) ≡ false
