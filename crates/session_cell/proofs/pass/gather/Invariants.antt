use Rattle.std.proofs.Common.{◌≡◌, ◌++◌, ◌∷◌, [], List, vec_len}
use Rattle.cell_rule.specs.declared.view.Hand.{Hand}
use Rattle.cell_rule.specs.declared.stop.StopHand.{StopHand}
use Rattle.cell_rule.specs.Stops.{stop_gathered}
use Rattle.cell_rule.specs.Views.{gathered}
use Rattle.session_cell.specs.Passes.{hands_of, stop_hands_of, AreOfTable, AreOfStops}
use Rattle.session_cell.proofs.pass.gather.Given as goal

abbrev pub invariant-loop-pass : goal.invariant-loop-pass
invariant-loop-pass l = record {
  table : l.seat.table_id ≡ l.initial.seat.table_id;
  stops : l.stop_seat.table_id ≡ l.initial.stop_seat.table_id;
  rounds : AreOfStops l.stop.shared.table_id l.passes.items;
  stop_seat : (h : StopHand) × (js : List StopHand) × (l.stop_seat.me ≡ (stop_gathered h js, [])) × (stop_hands_of l.initial.passes.items ++ l.initial.stop_seat.me.0.own ∷ [] ≡ stop_hands_of l.passes.items ++ h ∷ js);
  passes : AreOfTable l.turn.shared.table_id l.passes.items;
  seat : (h : Hand) × (js : List Hand) × (l.seat.me ≡ (gathered h js, [])) × (hands_of l.initial.passes.items ++ l.initial.seat.me.0.own ∷ [] ≡ hands_of l.passes.items ++ h ∷ js);
}

abbrev pub decreases-loop-pass : goal.decreases-loop-pass
decreases-loop-pass l = vec_len l.passes
