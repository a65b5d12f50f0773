use Rattle.std.proofs.Common.{◌≡◌, ◌+◌, List, ◌∷◌, ◌++◌, [], ◌&&◌, true, false, length, map, take, ap, sym, subst, arith, length-append}
use Rattle.lists.specs.Sets.{has}
use Rattle.universe_parts.specs.Listed.{version_listed}
use Rattle.universe_parts.specs.declared.listed.ListedVersion.{ListedVersion}
use Rattle.requirement_list.specs.Installed.{is_read, AreInstalled}
use Rattle.requirement_list.proofs.KeptInstalled.{kept_more, kept_same, kept_whole}
use Rattle.requirement_list.proofs.installed.list_installed.Goals as goal
use Rattle.requirement_list.proofs.installed.list_installed.Goals.{then-is_there+in_ok-push, else-is_there}

pub loop-number-preserved : goal.loop-number-preserved
loop-number-preserved c =
    let starts = c.args.problem.now.starts in
    let vs = c.args.versions.now in
    let n = c.loop-number.number in
    let v = c.index-versions-number.result in
    let kept = c.loop-number.kept.items in
    let P : List ListedVersion → Type 0 = λ ks. AreInstalled starts (map version_listed (take (n + 1) vs)) (map version_listed ks) in
    elim c.if-is_there.branch [
      | then-is_there+in_ok-push w ↦
          let there : (is_read (version_listed v) && has starts n) ≡ true = cc (c.is_there.ensures, w.if-is_there.true) in
          let same : c.if-is_there.kept.items ≡ kept ++ v ∷ [] = rw w.kept-is w.in_ok-push.ensures.items in
          record {
            installed = subst P (sym same) (kept_more starts version_listed vs kept n v c.loop-number-test.true c.index-versions-number.is there c.loop-number.invariant.installed);
            few = omega (arith, ap length same, length-append kept (v ∷ []), c.loop-number.invariant.few);
          }
      | else-is_there w ↦
          let out : (is_read (version_listed v) && has starts n) ≡ false = cc (c.is_there.ensures, w.if-is_there.false) in
          rw w.kept-is (record {
            installed = kept_same starts version_listed vs kept n v c.loop-number-test.true c.index-versions-number.is out c.loop-number.invariant.installed;
            few = omega (arith, c.loop-number.invariant.few);
          })
    ]

pub returns-clause-installed : goal.returns-clause-installed
returns-clause-installed c = kept_whole c.args.problem.now.starts version_listed c.args.versions.now c.loop-number.kept.items c.loop-number.number c.loop-number-test.false c.loop-number.invariant.installed
