use Rattle.std.proofs.Common.{◌≡◌, ◌==◌, take, false}
use Rattle.std.specs.List.{list_any}
use Rattle.resolver_model.specs.Problems.{package_of}
use Rattle.broken_deps.proofs.is_any_of.Given as goal

abbrev pub invariant-loop-version : goal.invariant-loop-version
invariant-loop-version l = list_any (λ t. package_of l.problem t == l.package) (take l.version-index l.versions) ≡ false
