use Rattle.std.proofs.Common.{arith, [], sym, subst}
use mathlib.Core.Option.{none}
use Rattle.atomic_table.specs.Table.{Me, step, Allows}
use Rattle.cell_rule.specs.declared.stop.StopView.{StopView}
use Rattle.cell_rule.specs.Stops.{IsStop, Sees}
use Rattle.cell_rule.proofs.StopKeeps.{sees}
use Rattle.session_cell.proofs.stopping.load_stop.Goals as goal

pub load-requires : goal.load-requires
load-requires c =
    let seat = c.args.seat.now in
    let slots = c.args.stop.now.shared.table_id.slots in
    let Q : Me (Unit {0}) StopView → Type 0 = λ m. Allows IsStop slots seat.id m 0 (λ n. n) (Sees (step slots 0 0 0 none) m) in
    (c.requires.table.0, omega arith, subst Q (sym c.requires.single) (sees slots seat.id seat.me.0.own.value seat.me.0.own.marked []))
