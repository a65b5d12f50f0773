use Rattle.std.proofs.Common.{map}
use Rattle.version_list.specs.Releases.{release_stanza}
use Rattle.version_list.proofs.OnePackage.{IsBest}
use Rattle.version_list.proofs.releases.greatest.Given as goal

abbrev pub invariant-loop-place : goal.invariant-loop-place
invariant-loop-place l = IsBest (map release_stanza l.releases) l.best l.place
