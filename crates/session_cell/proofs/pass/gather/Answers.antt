use Rattle.std.proofs.Common.{arith, ◌≡◌, ◌==◌, [], ◌∷◌, ◌++◌, List, sym, subst, ap, ◌∙◌}
use Rattle.atomic_table.specs.Table.{Joins}
use Rattle.cell_rule.specs.declared.view.Hand.{Hand}
use Rattle.cell_rule.specs.declared.view.View.{View}
use Rattle.cell_rule.specs.Views.{gathered, both_of, spent_view}
use Rattle.cell_rule.specs.Turns.{IsKept}
use Rattle.cell_rule.specs.declared.stop.StopHand.{StopHand}
use Rattle.cell_rule.specs.Stops.{stop_hand, stop_gathered}
use Rattle.session_cell.specs.Passes.{Pass, hands_of, stop_hands_of, AreOfTable, AreOfStops}
use Rattle.cell_rule.proofs.Keeps.{joins}
use Rattle.session_cell.proofs.PassLists.{hands_more, tables_front, tables_last, stop_hands_more, stops_front, stops_last}
use Rattle.session_cell.proofs.pass.gather.Goals as goal

pub join_seat-requires : goal.join_seat-requires
join_seat-requires c =
    let shared = c.args.turn.now.shared in
    let seat = c.loop-pass.seat in
    let other = c.pass.inside.seat in
    let inv = c.loop-pass.invariant.seat in
    let popped : c.loop-pass.passes.items ≡ c.pop.new.self.items ++ c.in-Some.pass ∷ [] = c.in-Some.ensures.items in
    let tables = subst (AreOfTable shared.table_id) popped c.loop-pass.invariant.passes in
    let table = ap (λ (p : Pass). p.table) c.pass.view_is ∙ tables_last shared.table_id c.pop.new.self.items c.in-Some.pass tables in
    let Q : View × View → Type 0 = λ q. Joins (IsKept shared.key.value) seat.id q.0 other.id q.1 (both_of q.0 q.1) spent_view in (
      c.loop-pass.invariant.table ∙ c.requires.table.0,
      table,
      ap (λ m. m.1) c.pass.invariant.0,
      omega arith,
      subst Q (λ k. ((sym inv.2 k).0, (sym c.pass.invariant.0 k).0)) (joins shared.key.value seat.id other.id inv.0 other.me.0.own inv.1),
    )

pub unite_stop-requires-clause-table : goal.unite_stop-requires-clause-table
unite_stop-requires-clause-table c =
    let stops_id = c.args.stop.now.shared.table_id in
    let popped : c.loop-pass.passes.items ≡ c.pop.new.self.items ++ c.in-Some.pass ∷ [] = c.in-Some.ensures.items in
    let rounds = subst (AreOfStops stops_id) popped c.loop-pass.invariant.rounds in
    (c.loop-pass.invariant.stops ∙ c.requires.stops.0, c.requires.stops.1, ap (λ (p : Pass). p.stops) c.pass.view_is ∙ stops_last stops_id c.pop.new.self.items c.in-Some.pass rounds)

pub loop-pass-preserved : goal.loop-pass-preserved
loop-pass-preserved c =
    let table_id = c.args.turn.now.shared.table_id in
    let other = c.pass.inside.seat in
    let g : Hand = other.me.0.own in
    let inv = c.loop-pass.invariant.seat in
    let popped : c.loop-pass.passes.items ≡ c.pop.new.self.items ++ c.in-Some.pass ∷ [] = c.in-Some.ensures.items in
    let tables = subst (AreOfTable table_id) popped c.loop-pass.invariant.passes in
    let both : (both_of c.loop-pass.seat.me.0 other.me.0, c.loop-pass.seat.me.1) ≡ (gathered g (inv.0 ∷ inv.1), []) = λ k. (both_of (inv.2 k).0 (c.pass.invariant.0 k).0, (inv.2 k).1) in
    let back : List Hand = inv.0 ∷ inv.1 in
    let stops_id = c.args.stop.now.shared.table_id in
    let rounds = subst (AreOfStops stops_id) popped c.loop-pass.invariant.rounds in
    let stop_inv = c.loop-pass.invariant.stop_seat in
    let stop_back : List StopHand = stop_inv.0 ∷ stop_inv.1 in
    let p = c.in-Some.pass in
    let own : stop_hand c.pass.inside.stop.me.0.own.value (c.pass.inside.seat.me.0.own.actor == 0) ≡ stop_hand p.stop (p.hand.actor == 0) = ap (λ (q : Pass). stop_hand q.stop (q.hand.actor == 0)) c.pass.view_is in
    let taken : (stop_gathered c.pass.inside.stop.me.0.own (c.loop-pass.stop_seat.me.0.own ∷ c.loop-pass.stop_seat.me.0.joined), []) ≡ (stop_gathered (stop_hand p.stop (p.hand.actor == 0)) stop_back, []) =
    λ k. (stop_gathered ((ap (λ m. m.0.own) c.pass.invariant.2 ∙ own) k) ((stop_inv.2 k).0.own ∷ (stop_inv.2 k).0.joined), []) in
    record {
      stops = c.unite_stop.ensures.table ∙ c.loop-pass.invariant.stops;
      rounds = stops_front stops_id c.pop.new.self.items p rounds;
      stop_seat = (
        stop_hand p.stop (p.hand.actor == 0),
        stop_back,
        c.unite_stop.ensures.seat ∙ taken,
        stop_inv.3 ∙ (ap (λ (l : List Pass). stop_hands_of l ++ stop_back) popped ∙ stop_hands_more c.pop.new.self.items p stop_back),
      );
      table = c.join_seat.ensures.0 ∙ c.loop-pass.invariant.table;
      passes = tables_front table_id c.pop.new.self.items c.in-Some.pass tables;
      seat = (
        g,
        back,
        c.join_seat.ensures.2 ∙ both,
        inv.3 ∙ (ap (λ (l : List Pass). hands_of l ++ back) popped ∙ (hands_more c.pop.new.self.items c.in-Some.pass back ∙ ap (λ (p : Pass). hands_of c.pop.new.self.items ++ p.hand ∷ back) (sym c.pass.view_is))),
      );
    }
