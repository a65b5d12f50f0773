use Rattle.std.proofs.Common.{subst, ap}
use Rattle.atomic_table.specs.Table.{Seen}
use Rattle.cell_rule.specs.declared.stop.StopView.{StopView}
use Rattle.cell_rule.specs.Stops.{IsStop}
use Rattle.cell_rule.proofs.StopKeeps.{stop_ends}
use Rattle.session_cell.proofs.stopping.close_stop.Goals as goal

pub returns : goal.returns
returns c =
    let seat = c.args.seat in
    let final = c.close_with-closed.ensures.values.2 in
    let seen = subst (λ (v : StopView). Seen (IsStop {S = Unit {0}}) seat.id v final.0) (ap (λ m. m.0) c.requires.gathered) final.1 in
    stop_ends seat.id seat.me.0.own seat.me.0.joined final.0 seen
