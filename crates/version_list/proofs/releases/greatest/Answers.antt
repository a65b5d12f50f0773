-- The best so far is the best of all at the end.
use Rattle.std.proofs.Common.{◌<◌, map, length, true, false, arith}
use Rattle.std.proofs.lemmas.List.{length-map}
use Rattle.version_list.specs.Releases.{release_stanza}
use Rattle.version_list.proofs.OnePackage.{IsBest-first, IsBest-later, IsBest-stays, IsBest-all, later-at}
use Rattle.version_list.proofs.releases.greatest.Goals as goal
use Rattle.version_list.proofs.releases.greatest.Goals.{then-is_later, else-is_later}

pub loop-place-init : goal.loop-place-init
loop-place-init c = IsBest-first (map release_stanza c.args.releases.now) (omega (arith, length-map c.args.releases.now release_stanza, c.requires))

pub loop-place-preserved : goal.loop-place-preserved
loop-place-preserved c =
    let rs = c.args.releases.now in
    let long = length-map rs release_stanza in
    let here : c.loop-place.place < length rs = omega arith in
    let there : c.loop-place.best < length rs = omega (arith, c.loop-place.invariant.inside) in
    elim c.if-is_later.branch [
      | then-is_later w ↦ rw w.best-is (IsBest-later (map release_stanza rs) c.loop-place.best c.loop-place.place (omega arith) c.loop-place.invariant
          (later-at release_stanza rs c.loop-place.place c.loop-place.best c.index-releases-place.result c.index-releases-best.result c.is_later.result true
          here there c.index-releases-place.is c.index-releases-best.is c.is_later.ensures w.if-is_later.true))
      | else-is_later w ↦ rw w.best-is (IsBest-stays (map release_stanza rs) c.loop-place.best c.loop-place.place (omega arith) c.loop-place.invariant
          (later-at release_stanza rs c.loop-place.place c.loop-place.best c.index-releases-place.result c.index-releases-best.result c.is_later.result false
          here there c.index-releases-place.is c.index-releases-best.is c.is_later.ensures w.if-is_later.false))
    ]

pub returns-clause-place : goal.returns-clause-place
returns-clause-place c =
    let long = length-map c.args.releases.now release_stanza in
    IsBest-all (map release_stanza c.args.releases.now) c.loop-place.best c.loop-place.place (omega arith) c.loop-place.invariant
