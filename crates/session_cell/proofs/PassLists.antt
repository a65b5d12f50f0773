-- Lists of passes.
use Rattle.std.proofs.Common.{arith, ◌≡◌, ◌==◌, true, ℕ, zero, suc, List, [], ◌∷◌, ◌++◌, refl, ap}
use Rattle.atomic_table.specs.Seated.{TableId}
use Rattle.search_core.specs.Sessions.{Session}
use Rattle.cell_rule.specs.declared.view.Hand.{Hand}
use Rattle.cell_rule.specs.declared.stop.StopHand.{StopHand}
use Rattle.cell_rule.specs.Stops.{stop_hand, EachStop, FitsStop}
use Rattle.session_cell.specs.Passes.{stop_hands_of, AreOfStops, AreStops, Pass, Cell, new_pass, passes_below, passes_from_one, hands_of, AreOfTable, ArePassesOf}

pub hands_more : (ps : List Pass) (p : Pass) (hs : List Hand) → hands_of (ps ++ p ∷ []) ++ hs ≡ hands_of ps ++ p.hand ∷ hs
hands_more [] p hs = refl
hands_more (q ∷ ps) p hs = ap (λ l. q.hand ∷ l) (hands_more ps p hs)

pub tables_front : (table : TableId) (ps : List Pass) (p : Pass) → AreOfTable table (ps ++ p ∷ []) → AreOfTable table ps
tables_front table [] p a = tt
tables_front table (q ∷ ps) p a = (a.0, tables_front table ps p a.1)

pub tables_last : (table : TableId) (ps : List Pass) (p : Pass) → AreOfTable table (ps ++ p ∷ []) → p.table ≡ table
tables_last table [] p a = a.0
tables_last table (q ∷ ps) p a = tables_last table ps p a.1

pub of_one_table : (cell : Cell) (ps : List Pass) → ArePassesOf cell ps → AreOfTable cell.table ps
of_one_table cell [] a = tt
of_one_table cell (p ∷ ps) a = (a.0.0, of_one_table cell ps a.1)

pub first_and_others : (table stops : TableId) (start : Session) (n : ℕ) → new_pass table stops start 0 ∷ passes_from_one table stops start n ≡ passes_below table stops start (suc n)
first_and_others table stops start zero = refl
first_and_others table stops start (suc n) = ap (λ l. l ++ new_pass table stops start (suc n) ∷ []) (first_and_others table stops start n)

pub stop_hands_more : (ps : List Pass) (p : Pass) (hs : List StopHand) → stop_hands_of (ps ++ p ∷ []) ++ hs ≡ stop_hands_of ps ++ stop_hand p.stop (p.hand.actor == 0) ∷ hs
stop_hands_more [] p hs = refl
stop_hands_more (q ∷ ps) p hs = ap (λ l. stop_hand q.stop (q.hand.actor == 0) ∷ l) (stop_hands_more ps p hs)

pub stops_front : (stops : TableId) (ps : List Pass) (p : Pass) → AreOfStops stops (ps ++ p ∷ []) → AreOfStops stops ps
stops_front stops [] p a = tt
stops_front stops (q ∷ ps) p a = (a.0, stops_front stops ps p a.1)

pub stops_last : (stops : TableId) (ps : List Pass) (p : Pass) → AreOfStops stops (ps ++ p ∷ []) → p.stops ≡ stops
stops_last stops [] p a = a.0
stops_last stops (q ∷ ps) p a = stops_last stops ps p a.1

pub of_one_stop : (cell : Cell) (ps : List Pass) → ArePassesOf cell ps → AreOfStops cell.stops ps
of_one_stop cell [] a = tt
of_one_stop cell (p ∷ ps) a = (a.0.1, of_one_stop cell ps a.1)

is_zero : (n : ℕ) → n ≡ 0 → (n == 0) ≡ true
is_zero n e = grind (arith)

-- what is known of the hands is so of the passes
pub are_stops : (asked : ℕ) (ps : List Pass) → EachStop (FitsStop asked) (stop_hands_of ps) → AreStops asked ps
are_stops asked [] e = tt
are_stops asked (p ∷ ps) e = (e.0.0, λ z. e.0.1 (is_zero p.hand.actor z), are_stops asked ps e.1)
