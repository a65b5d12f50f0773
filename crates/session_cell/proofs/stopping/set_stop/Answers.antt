use Rattle.std.proofs.Common.{arith, [], sym, subst}
use mathlib.Core.Option.{none}
use Rattle.atomic_table.specs.Table.{Me, step, Allows}
use Rattle.cell_rule.specs.declared.stop.StopView.{StopView}
use Rattle.cell_rule.specs.Stops.{IsStop, Asks}
use Rattle.cell_rule.proofs.StopKeeps.{asks}
use Rattle.session_cell.proofs.stopping.set_stop.Goals as goal

pub store-requires : goal.store-requires
store-requires c =
    let seat = c.args.seat.now in
    let slots = c.args.stop.now.shared.table_id.slots in
    let Q : Me (Unit {0}) StopView → Type 0 = λ m. Allows IsStop slots seat.id m 0 (λ _. c.args.round) (λ _. Asks (step slots 0 c.args.round 0 none) m c.args.round) in
    (c.requires.table.0, omega arith, subst Q (sym c.requires.marked) (asks slots seat.id seat.me.0.own.value c.args.round [] c.requires.later))
