use Rattle.std.proofs.Common.{arith, ◌<◌, sym, subst, ◌∙◌}
use Rattle.atomic_table.specs.Table.{Splits}
use Rattle.cell_rule.specs.declared.view.View.{View}
use Rattle.cell_rule.specs.Views.{newcomer, left_of, right_of}
use Rattle.cell_rule.specs.Turns.{IsKept}
use Rattle.cell_rule.proofs.Keeps.{splits}
use Rattle.session_cell.proofs.pass.deal.Goals as goal

pub split_seat-other-requires : goal.split_seat-other-requires
split_seat-other-requires c =
    let shared = c.args.turn.now.shared in
    let seat = c.loop-actor.seat in
    let start = shared.key.value in
    let is = c.loop-actor.invariant.seat in
    let Q : View → Type 0 = λ v. Splits (IsKept start) seat.id v (left_of v) (right_of v) in
    let below : c.loop-actor.actor < start.setting.actors = omega arith in
    (c.loop-actor.invariant.table ∙ c.requires.table.0, omega arith, subst Q (λ k. (sym is k).0) (splits start seat.id c.loop-actor.actor (newcomer start start.history 0) below))
