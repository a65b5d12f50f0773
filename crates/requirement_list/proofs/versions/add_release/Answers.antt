use Rattle.std.proofs.lemmas.Result.{err_from_is_err_and, MatchResult-weaker}
use Rattle.requirement_list.specs.Settings.{setting_of}
use Rattle.requirement_list.proofs.Collecting.{come_none, come_step, come_last, ended_step, ended_last}
use Rattle.requirement_list.proofs.Releases.{needed, wished, opposed, from_conflicts, from_recommends, from_depends, of_relations}
use Rattle.requirement_list.proofs.versions.add_release.Goals as goal

pub returns-in_err-add_groups-clause-adds : goal.returns-in_err-add_groups-clause-adds
returns-in_err-add_groups-clause-adds c =
    let index = c.args.indexes.now.all in
    let a = c.args.collected.now in
    let source = c.args.source in
    let own = c.args.own in
    let rs = c.args.read.now.stanza.relations in
    let s = setting_of index a in
    let all = of_relations source own rs s in
    let e = err_from_is_err_and c.from_residual.result c.from_residual.ensures.1 in
    rw (e.1, e.2) (ended_step index a a all (from_depends source own rs s) (needed source rs.pre_depends) _ (come_none all a) c.in_err-add_groups.ensures)

pub returns-in_err-add_groups-2-clause-adds : goal.returns-in_err-add_groups-2-clause-adds
returns-in_err-add_groups-2-clause-adds c =
    let index = c.args.indexes.now.all in
    let a = c.args.collected.now in
    let source = c.args.source in
    let own = c.args.own in
    let rs = c.args.read.now.stanza.relations in
    let s = setting_of index a in
    let all = of_relations source own rs s in
    let come1 = come_step index a a c.add_groups.new.collected all (from_depends source own rs s) (needed source rs.pre_depends) (come_none all a) c.in_ok-add_groups.ensures in
    let e = err_from_is_err_and c.from_residual-in_err-add_groups-2.result c.from_residual-in_err-add_groups-2.ensures.1 in
    rw (e.1, e.2) (ended_step index a c.add_groups.new.collected all (from_recommends source own rs s) (needed source rs.depends) _ come1 c.in_err-add_groups-2.ensures)

pub returns-in_err-add_recommends-clause-adds : goal.returns-in_err-add_recommends-clause-adds
returns-in_err-add_recommends-clause-adds c =
    let index = c.args.indexes.now.all in
    let a = c.args.collected.now in
    let source = c.args.source in
    let own = c.args.own in
    let rs = c.args.read.now.stanza.relations in
    let s = setting_of index a in
    let all = of_relations source own rs s in
    let come1 = come_step index a a c.add_groups.new.collected all (from_depends source own rs s) (needed source rs.pre_depends) (come_none all a) c.in_ok-add_groups.ensures in
    let come2 = come_step index a c.add_groups.new.collected c.add_groups-2.new.collected all (from_recommends source own rs s) (needed source rs.depends) come1 c.in_ok-add_groups-2.ensures in
    let e = err_from_is_err_and c.from_residual-in_err-add_recommends.result c.from_residual-in_err-add_recommends.ensures.1 in
    rw (e.1, e.2) (ended_step index a c.add_groups-2.new.collected all (from_conflicts source own rs s) (wished source rs.recommends) _ come2 c.in_err-add_recommends.ensures)

pub returns-in_err-add_conflicts-clause-adds : goal.returns-in_err-add_conflicts-clause-adds
returns-in_err-add_conflicts-clause-adds c =
    let index = c.args.indexes.now.all in
    let a = c.args.collected.now in
    let source = c.args.source in
    let own = c.args.own in
    let rs = c.args.read.now.stanza.relations in
    let s = setting_of index a in
    let all = of_relations source own rs s in
    let come1 = come_step index a a c.add_groups.new.collected all (from_depends source own rs s) (needed source rs.pre_depends) (come_none all a) c.in_ok-add_groups.ensures in
    let come2 = come_step index a c.add_groups.new.collected c.add_groups-2.new.collected all (from_recommends source own rs s) (needed source rs.depends) come1 c.in_ok-add_groups-2.ensures in
    let come3 = come_step index a c.add_groups-2.new.collected c.add_recommends.new.collected all (from_conflicts source own rs s) (wished source rs.recommends) come2 c.in_ok-add_recommends.ensures in
    let e = err_from_is_err_and c.from_residual-in_err-add_conflicts.result c.from_residual-in_err-add_conflicts.ensures.1 in
    rw (e.1, e.2) (ended_step index a c.add_recommends.new.collected all (opposed source own rs.breaks s) (opposed source own rs.conflicts) _ come3 c.in_err-add_conflicts.ensures.adds)

pub returns-clause-adds : goal.returns-clause-adds
returns-clause-adds c =
    let index = c.args.indexes.now.all in
    let a = c.args.collected.now in
    let source = c.args.source in
    let own = c.args.own in
    let rs = c.args.read.now.stanza.relations in
    let s = setting_of index a in
    let all = of_relations source own rs s in
    let come1 = come_step index a a c.add_groups.new.collected all (from_depends source own rs s) (needed source rs.pre_depends) (come_none all a) c.in_ok-add_groups.ensures in
    let come2 = come_step index a c.add_groups.new.collected c.add_groups-2.new.collected all (from_recommends source own rs s) (needed source rs.depends) come1 c.in_ok-add_groups-2.ensures in
    let come3 = come_step index a c.add_groups-2.new.collected c.add_recommends.new.collected all (from_conflicts source own rs s) (wished source rs.recommends) come2 c.in_ok-add_recommends.ensures in
    let come4 = come_step index a c.add_recommends.new.collected c.add_conflicts.new.collected all (opposed source own rs.breaks s) (opposed source own rs.conflicts) come3 c.in_ok-add_conflicts.ensures.adds in
    MatchResult-weaker c.add_conflicts-2.result c.add_conflicts-2.ensures.adds (λ _ h. come_last index a c.add_conflicts.new.collected c.add_conflicts-2.new.collected all (opposed source own rs.breaks) come4 h)
    (λ end h. ended_last index a c.add_conflicts.new.collected all (opposed source own rs.breaks) end come4 h)
