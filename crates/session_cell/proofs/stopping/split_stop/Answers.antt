use Rattle.std.proofs.Common.{arith, false, sym, subst, ap}
use Rattle.atomic_table.specs.Table.{Splits}
use Rattle.cell_rule.specs.declared.stop.StopView.{StopView}
use Rattle.cell_rule.specs.Stops.{IsStop, stop_view}
use Rattle.cell_rule.proofs.StopKeeps.{tells}
use Rattle.session_cell.proofs.stopping.split_stop.Goals as goal

pub split_seat-requires : goal.split_seat-requires
split_seat-requires c =
    let seat = c.args.seat.now in
    let Q : StopView → Type 0 = λ v. Splits (IsStop {S = Unit {0}}) seat.id v v (stop_view v.own.value false) in
    (c.requires.table.0, omega arith, subst Q (sym (ap (λ m. m.0) c.requires.single)) (tells seat.id seat.me.0.own.value seat.me.0.own.marked))
