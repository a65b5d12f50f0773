use Rattle.std.proofs.Common.{sym}
use Rattle.std.specs.List.{flat_map}
use Rattle.std.proofs.lemmas.Result.{err_from_is_err_and}
use Rattle.dep_fields.specs.Views.{group_items, items_left}
use Rattle.dep_fields.specs.Relationships.{meaning}
use Rattle.universe_model.specs.Dependencies.{Setting, of_conflict}
use Rattle.requirement_list.specs.Settings.{setting_of}
use Rattle.requirement_list.proofs.Collecting.{come_step, ended_step}
use Rattle.requirement_list.proofs.Rows.{rows_along}
use Rattle.requirement_list.proofs.conflicts.add_items.Goals as goal

pub returns-in_err-add_conflict-clause-adds : goal.returns-in_err-add_conflict-clause-adds
returns-in_err-add_conflict-clause-adds c =
    let a = c.args.collected.now in
    let own = c.args.own in
    let source = c.args.source in
    let f = of_conflict (setting_of c.args.index.now a) source own in
    let come = rw c.in-Some.ensures.steps at c.loop-item.invariant.come in
    let e = err_from_is_err_and c.from_residual.result c.from_residual.ensures.1 in
    rw (e.1, e.2) (ended_step c.args.index.now a c.loop-item.collected (flat_map f (group_items c.args.group.now)) (flat_map f (items_left c.next.new.self)) (λ (t : Setting). of_conflict t source own (meaning c.in-Some.item)) _ come c.in_err-add_conflict.ensures.adds)

pub add_conflict-requires-clause-kept : goal.add_conflict-requires-clause-kept
add_conflict-requires-clause-kept c =
    rows_along c.args.index.now c.args.collected.now c.loop-item.collected c.loop-item.room.answers c.loop-item.invariant.come.starts c.loop-item.invariant.kept

pub loop-item-preserved : goal.loop-item-preserved
loop-item-preserved c =
    let a = c.args.collected.now in
    let f = of_conflict (setting_of c.args.index.now a) c.args.source c.args.own in
    let come = rw c.in-Some.ensures.steps at c.loop-item.invariant.come in
    record {
      come = come_step c.args.index.now a c.loop-item.collected c.add_conflict.new.collected (flat_map f (group_items c.args.group.now)) (flat_map f (items_left c.next.new.self))
          (λ (t : Setting). of_conflict t c.args.source c.args.own (meaning c.in-Some.item)) come c.in_ok-add_conflict.ensures.adds;
      kept = rows_along c.args.index.now c.loop-item.collected a c.add_conflict.new.room.answers (sym c.loop-item.invariant.come.starts) c.in_ok-add_conflict.ensures.kept;
    }
