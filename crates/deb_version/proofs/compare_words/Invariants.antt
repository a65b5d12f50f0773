use Rattle.std.proofs.Common.{◌≡◌, map, drop}
use Rattle.deb_version.specs.VersionOrder.{rank, key_order}
use Rattle.deb_version.proofs.compare_words.Given as goal

abbrev pub invariant-loop-place : goal.invariant-loop-place
invariant-loop-place l = key_order (map rank (drop l.place l.a)) (map rank (drop l.place l.b)) ≡ key_order (map rank l.a) (map rank l.b)
