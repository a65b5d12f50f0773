use Rattle.std.proofs.Common.{◌≡◌, ◌==◌, ◌<◌, ℕ, [], ◌∷◌, ◌++◌, true, sym, subst, ap, ◌∙◌, append-nil}
use Rattle.search_core.specs.Sessions.{Session}
use Rattle.cell_rule.specs.declared.view.Hand.{Hand}
use Rattle.cell_rule.specs.Views.{stands}
use Rattle.cell_rule.specs.declared.stop.StopHand.{StopHand}
use Rattle.cell_rule.specs.Stops.{stop_hand, EachStop, FitsStop}
use Rattle.session_cell.specs.Passes.{Cell, Pass, hands_of, stop_hands_of, AreOfTable, AreOfStops}
use Rattle.session_cell.proofs.PassLists.{of_one_table, hands_more, tables_front, tables_last, of_one_stop, stop_hands_more, stops_front, stops_last, are_stops}
use Rattle.session_cell.proofs.Closing.{closed}
use Rattle.session_cell.proofs.cell.SessionCell.close.Goals as goal

pub gather-requires-clause-table : goal.gather-requires-clause-table
gather-requires-clause-table c =
    let popped : c.args.passes.items ≡ c.pop.new.self.items ++ c.in-Some.last ∷ [] = c.in-Some.ensures.items in
    let tables = subst (AreOfTable c.args.self.table) popped (of_one_table c.args.self c.args.passes.items c.requires.passes) in
    (ap (λ (p : Pass). p.table) c.last.view_is ∙ (tables_last c.args.self.table c.pop.new.self.items c.in-Some.last tables ∙ sym (ap (λ (x : Cell). x.table) c.self.view_is)), c.self.invariant.0)

pub gather-requires-clause-passes : goal.gather-requires-clause-passes
gather-requires-clause-passes c =
    let popped : c.args.passes.items ≡ c.pop.new.self.items ++ c.in-Some.last ∷ [] = c.in-Some.ensures.items in
    let tables = subst (AreOfTable c.args.self.table) popped (of_one_table c.args.self c.args.passes.items c.requires.passes) in
    let rounds = subst (AreOfStops c.args.self.stops) popped (of_one_stop c.args.self c.args.passes.items c.requires.passes) in (
      subst (λ t. AreOfTable t c.pop.new.self.items) (sym (ap (λ (x : Cell). x.table) c.self.view_is)) (tables_front c.args.self.table c.pop.new.self.items c.in-Some.last tables),
      subst (λ t. AreOfStops t c.pop.new.self.items) (sym (ap (λ (x : Cell). x.stops) c.self.view_is)) (stops_front c.args.self.stops c.pop.new.self.items c.in-Some.last rounds),
    )

pub gather-requires-clause-stops : goal.gather-requires-clause-stops
gather-requires-clause-stops c =
    let popped : c.args.passes.items ≡ c.pop.new.self.items ++ c.in-Some.last ∷ [] = c.in-Some.ensures.items in
    let rounds = subst (AreOfStops c.args.self.stops) popped (of_one_stop c.args.self c.args.passes.items c.requires.passes) in
    (ap (λ (p : Pass). p.stops) c.last.view_is ∙ (stops_last c.args.self.stops c.pop.new.self.items c.in-Some.last rounds ∙ sym (ap (λ (x : Cell). x.stops) c.self.view_is)), c.self.invariant.2)

pub close_stop-requires-clause-table : goal.close_stop-requires-clause-table
close_stop-requires-clause-table c =
    let popped : c.args.passes.items ≡ c.pop.new.self.items ++ c.in-Some.last ∷ [] = c.in-Some.ensures.items in
    let rounds = subst (AreOfStops c.args.self.stops) popped (of_one_stop c.args.self c.args.passes.items c.requires.passes) in
    (c.gather.ensures.table.1 ∙ (ap (λ (p : Pass). p.stops) c.last.view_is ∙ (stops_last c.args.self.stops c.pop.new.self.items c.in-Some.last rounds ∙ sym (ap (λ (x : Cell). x.stops) c.self.view_is))), c.self.invariant.3)

pub close_with-closed-requires : goal.close_with-closed-requires
close_with-closed-requires c =
    let popped : c.args.passes.items ≡ c.pop.new.self.items ++ c.in-Some.last ∷ [] = c.in-Some.ensures.items in
    let tables = subst (AreOfTable c.args.self.table) popped (of_one_table c.args.self c.args.passes.items c.requires.passes) in
    c.gather.ensures.table.0 ∙ (ap (λ (p : Pass). p.table) c.last.view_is ∙ (tables_last c.args.self.table c.pop.new.self.items c.in-Some.last tables ∙ sym (ap (λ (x : Cell). x.table) c.self.view_is)))

pub returns : goal.returns
returns c =
    let popped : c.args.passes.items ≡ c.pop.new.self.items ++ c.in-Some.last ∷ [] = c.in-Some.ensures.items in
    let start : c.self.inside.turn.shared.key.value ≡ c.args.self.start = ap (λ (x : Cell). x.start) c.self.view_is in
    let gathered = c.gather.ensures.seat in
    let last : c.in-Some.last.hand ≡ c.last.inside.seat.me.0.own = sym (ap (λ (p : Pass). p.hand) c.last.view_is) in
    let all : hands_of c.args.passes.items ≡ gathered.0 ∷ gathered.1 =
    ap hands_of popped ∙ (sym (append-nil (hands_of (c.pop.new.self.items ++ c.in-Some.last ∷ []))) ∙ (hands_more c.pop.new.self.items c.in-Some.last []
    ∙ (ap (λ (h : Hand). hands_of c.pop.new.self.items ++ h ∷ []) last ∙ gathered.3))) in
    let stand = subst (λ (s : Session). (actor : ℕ) → actor < s.setting.actors → stands actor (hands_of c.args.passes.items) ≡ true) (sym start) c.requires.all.0 in
    let end = closed c.self.inside.turn.shared.key.value c.gather.new.seat.id c.gather.new.seat.me.0 gathered.0 gathered.1 (hands_of c.args.passes.items) _ _ c.take-session.result
    (ap (λ m. m.0) gathered.2) all c.close_with-closed.ensures.values.2 stand c.take-session.ensures.value in
    let stops = c.gather.ensures.stops in
    let last_stop : stop_hand c.in-Some.last.stop (c.in-Some.last.hand.actor == 0) ≡ c.last.inside.stop.me.0.own =
    sym (ap (λ (p : Pass). stop_hand p.stop (p.hand.actor == 0)) c.last.view_is) ∙ sym (ap (λ m. m.0.own) c.last.invariant.2) in
    let all_stops : stop_hands_of c.args.passes.items ≡ stops.0 ∷ stops.1 =
    ap stop_hands_of popped ∙ (sym (append-nil (stop_hands_of (c.pop.new.self.items ++ c.in-Some.last ∷ []))) ∙ (stop_hands_more c.pop.new.self.items c.in-Some.last []
    ∙ (ap (λ (h : StopHand). stop_hands_of c.pop.new.self.items ++ h ∷ []) last_stop ∙ stops.3))) in
    let asked = c.close_stop.ensures in
    let same : c.gather.new.stop_seat.me.0.own ∷ c.gather.new.stop_seat.me.0.joined ≡ stop_hands_of c.args.passes.items = (λ k. (stops.2 k).0.own ∷ (stops.2 k).0.joined) ∙ sym all_stops in
    record {
      setting = end.0 ∙ ap (λ (s : Session). s.setting) start;
      hands = end.1;
      stops = (asked.0, are_stops asked.0 c.args.passes.items (subst (EachStop (FitsStop asked.0)) same asked.1));
    }
