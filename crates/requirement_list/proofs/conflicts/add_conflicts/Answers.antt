use Rattle.std.proofs.Common.{sym}
use Rattle.std.specs.List.{flat_map}
use Rattle.std.proofs.lemmas.List.Concat.{flat_map-append}
use Rattle.std.proofs.lemmas.Result.{err_from_is_err_and}
use Rattle.dep_fields.specs.Checked.{single_groups}
use Rattle.dep_fields.specs.Views.{sound_left, group_items}
use Rattle.universe_model.specs.Versions.{concat}
use Rattle.universe_model.specs.Dependencies.{Setting, of_conflict, of_conflicts}
use Rattle.requirement_list.specs.Settings.{setting_of}
use Rattle.requirement_list.proofs.Collecting.{come_step, ended_step}
use Rattle.requirement_list.proofs.Rows.{rows_along}
use Rattle.requirement_list.proofs.conflicts.add_conflicts.Goals as goal

pub loop-group-preserved : goal.loop-group-preserved
loop-group-preserved c =
    let a = c.args.collected.now in
    let own = c.args.own in
    let source = c.args.source in
    let s = setting_of c.args.index.now a in
    let left = sound_left c.next.new.self in
    let come = rw c.in-Some.ensures.steps at c.loop-group.invariant.come in
    let split = rw (flat_map-append (of_conflict s source own) (group_items c.in-Some.group) (concat left)) at come in
    record {
      come = come_step c.args.index.now a c.loop-group.collected c.add_items.new.collected (of_conflicts s source own (single_groups c.args.field)) (of_conflicts s source own left)
          (λ (t : Setting). flat_map (of_conflict t source own) (group_items c.in-Some.group)) split c.in_ok-add_items.ensures.adds;
      kept = rows_along c.args.index.now c.loop-group.collected a c.add_items.new.room.answers (sym c.loop-group.invariant.come.starts) c.in_ok-add_items.ensures.kept;
    }

pub add_items-requires-clause-kept : goal.add_items-requires-clause-kept
add_items-requires-clause-kept c =
    rows_along c.args.index.now c.args.collected.now c.loop-group.collected c.loop-group.room.answers c.loop-group.invariant.come.starts c.loop-group.invariant.kept

pub returns-in_err-add_items-clause-adds : goal.returns-in_err-add_items-clause-adds
returns-in_err-add_items-clause-adds c =
    let a = c.args.collected.now in
    let own = c.args.own in
    let source = c.args.source in
    let s = setting_of c.args.index.now a in
    let left = sound_left c.next.new.self in
    let come = rw c.in-Some.ensures.steps at c.loop-group.invariant.come in
    let split = rw (flat_map-append (of_conflict s source own) (group_items c.in-Some.group) (concat left)) at come in
    let e = err_from_is_err_and c.from_residual.result c.from_residual.ensures.1 in
    rw (e.1, e.2) (ended_step c.args.index.now a c.loop-group.collected (of_conflicts s source own (single_groups c.args.field)) (of_conflicts s source own left)
    (λ (t : Setting). flat_map (of_conflict t source own) (group_items c.in-Some.group)) _ split c.in_err-add_items.ensures.adds)
