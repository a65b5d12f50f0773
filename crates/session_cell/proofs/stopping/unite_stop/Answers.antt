use Rattle.std.proofs.Common.{arith, sym, subst, ap}
use Rattle.atomic_table.specs.Table.{Joins}
use Rattle.cell_rule.specs.declared.stop.StopView.{StopView}
use Rattle.cell_rule.specs.Stops.{IsStop, both_stops, spent_stop}
use Rattle.cell_rule.proofs.StopKeeps.{unites}
use Rattle.session_cell.proofs.stopping.unite_stop.Goals as goal

pub join_seat-requires : goal.join_seat-requires
join_seat-requires c =
    let seat = c.args.seat.now in
    let other = c.args.other in
    let Q : StopView × StopView → Type 0 = λ q. Joins (IsStop {S = Unit {0}}) seat.id q.0 other.id q.1 (both_stops q.0 q.1) spent_stop in (
      c.requires.table.0,
      c.requires.table.2,
      ap (λ m. m.1) c.requires.single,
      omega arith,
      subst Q (λ k. ((sym c.requires.gathered k).0, (sym c.requires.single k).0)) (unites seat.id other.id seat.me.0.own seat.me.0.joined other.me.0.own.value other.me.0.own.marked),
    )
