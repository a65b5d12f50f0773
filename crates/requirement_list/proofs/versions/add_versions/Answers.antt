use Rattle.std.proofs.Common.{◌+◌, List, map, drop, sym, subst}
use Rattle.std.proofs.lemmas.Result.{err_from_is_err_and}
use Rattle.lists.proofs.Cuts.{drop_at}
use Rattle.universe_model.specs.Lists.{map_from}
use Rattle.universe_model.specs.Versions.{concat}
use Rattle.universe_model.specs.Dependencies.{Setting, of_version, requirements}
use Rattle.universe_parts.specs.Listed.{version_listed}
use Rattle.universe_parts.specs.declared.listed.ListedVersion.{ListedVersion}
use Rattle.requirement_list.specs.Settings.{setting_of}
use Rattle.requirement_list.specs.Collecting.{HasCome}
use Rattle.requirement_list.proofs.Collecting.{come_step, ended_step}
use Rattle.requirement_list.proofs.Rows.{rows_along}
use Rattle.requirement_list.proofs.versions.add_versions.Goals as goal

pub returns-in_err-add_version-clause-adds : goal.returns-in_err-add_version-clause-adds
returns-in_err-add_version-clause-adds c =
    let index = c.args.indexes.now.all in
    let a = c.args.collected.now in
    let s = setting_of index a in
    let k = c.loop-number.number in
    let v = c.index-versions-number.result in
    let vs = c.args.versions.now in
    let P : List ListedVersion → Type 0 = λ left. HasCome (requirements s) (concat (map_from (of_version s) k (map version_listed left))) a c.loop-number.collected in
    let come = subst P (drop_at vs k v c.loop-number-test.true c.index-versions-number.is) c.loop-number.invariant.come in
    let e = err_from_is_err_and c.from_residual.result c.from_residual.ensures.1 in
    rw (e.1, e.2) (ended_step index a c.loop-number.collected (requirements s) (concat (map_from (of_version s) (k + 1) (map version_listed (drop (k + 1) vs)))) (λ (t : Setting). of_version t k (version_listed v)) _ come c.in_err-add_version.ensures.adds)

pub add_version-requires-clause-kept : goal.add_version-requires-clause-kept
add_version-requires-clause-kept c =
    rows_along c.args.indexes.now.all c.args.collected.now c.loop-number.collected c.loop-number.room.answers c.loop-number.invariant.come.starts c.loop-number.invariant.kept

pub loop-number-preserved : goal.loop-number-preserved
loop-number-preserved c =
    let index = c.args.indexes.now.all in
    let a = c.args.collected.now in
    let s = setting_of index a in
    let k = c.loop-number.number in
    let v = c.index-versions-number.result in
    let vs = c.args.versions.now in
    let P : List ListedVersion → Type 0 = λ left. HasCome (requirements s) (concat (map_from (of_version s) k (map version_listed left))) a c.loop-number.collected in
    let come = subst P (drop_at vs k v c.loop-number-test.true c.index-versions-number.is) c.loop-number.invariant.come in
    record {
      come = come_step index a c.loop-number.collected c.add_version.new.collected (requirements s) (concat (map_from (of_version s) (k + 1) (map version_listed (drop (k + 1) vs)))) (λ (t : Setting). of_version t k (version_listed v)) come c.in_ok-add_version.ensures.adds;
      kept = rows_along index c.loop-number.collected a c.add_version.new.room.answers (sym c.loop-number.invariant.come.starts) c.in_ok-add_version.ensures.kept;
    }
