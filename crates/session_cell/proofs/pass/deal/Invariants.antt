use Rattle.std.proofs.Common.{◌≡◌, ◌+◌, ◌-◌, ◌≤◌, [], true, vec_len, vec_capacity}
use Rattle.cell_rule.specs.Views.{opening, newcomer}
use Rattle.cell_rule.specs.Stops.{stop_view}
use Rattle.session_cell.specs.Passes.{passes_from_one}
use Rattle.session_cell.proofs.pass.deal.Given as goal

abbrev pub invariant-loop-actor : goal.invariant-loop-actor
invariant-loop-actor l = record {
  table : l.seat.table_id ≡ l.initial.seat.table_id;
  seat : l.seat.me ≡ (opening l.actor (newcomer l.turn.shared.key.value l.turn.shared.key.value.history 0), []);
  stops : l.stop_seat.table_id ≡ l.initial.stop_seat.table_id;
  stop : l.stop_seat.me ≡ (stop_view 0 true, []);
  passes : l.passes.items ≡ passes_from_one l.turn.shared.table_id l.stop.shared.table_id l.turn.shared.key.value (l.actor - 1);
  room : l.actors ≤ vec_capacity l.passes;
  long : vec_len l.passes + 1 ≡ l.actor;
}
