use Rattle.std.proofs.Common.{◌≡◌, take}
use Rattle.wanted.proofs.starts.installed_versions.Given as goal

abbrev pub invariant-loop-package : goal.invariant-loop-package
invariant-loop-package l = l.starts.items ≡ take l.«package» l.problem.starts
