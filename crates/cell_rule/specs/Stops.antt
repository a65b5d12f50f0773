-- The rule of the stop word: the greatest round that was asked to stop.
use Rattle.std.specs.Prelude.{◌≡◌, ◌≤◌, ℕ, Bool, true, false, ◌||◌, List, [], ◌∷◌, ◌++◌, ⊤}
use mathlib.Core.Option.{some}
use lib.ListN.{get_elem?}
use Rattle.atomic_table.specs.Table.{State, Me, Step}
use Rattle.cell_rule.specs.declared.stop.StopHand.{StopHand}
use Rattle.cell_rule.specs.declared.stop.StopView.{StopView}

abbrev pub stop_hand : ℕ → Bool → StopHand
stop_hand value marked = record { value = value; marked = marked }

abbrev pub stop_view : ℕ → Bool → StopView
stop_view value marked = record { own = stop_hand value marked; joined = []; spent = false }

-- with other hands taken in
abbrev pub stop_gathered : StopHand → List StopHand → StopView
stop_gathered h joined = record { own = h; joined = joined; spent = false }

abbrev pub stop_hands_at : Bool → StopHand → List StopHand → List StopHand
stop_hands_at true own joined = []
stop_hands_at false own joined = own ∷ joined

-- the hands of the actors that a view stands for
abbrev pub stop_hands : StopView → List StopHand
stop_hands v = stop_hands_at v.spent v.own v.joined

-- the hands of both, in one view
abbrev pub both_stops : StopView → StopView → StopView
both_stops v w = record { own = w.own; joined = w.joined ++ stop_hands v; spent = v.spent }

abbrev pub spent_stop : StopView
spent_stop = record { own = stop_hand 0 false; joined = []; spent = true }

-- one of the hands is actor 0's
abbrev pub has_mark : List StopHand → Bool
has_mark [] = false
has_mark (h ∷ hs) = h.marked || has_mark hs

abbrev pub EachStop : (StopHand → Type 0) → List StopHand → Type 0
EachStop P [] = ⊤
EachStop P (h ∷ hs) = P h × EachStop P hs

-- an actor saw at most what was asked, and actor 0 knows what it asked last
abbrev pub FitsStop : ℕ → StopHand → Type 0
FitsStop asked h = (h.value ≤ asked) × (h.marked ≡ true → h.value ≡ asked)

-- The word is the value of the one marked hand, and no value is greater.
pub record IsStop {S : Type 0} (s : State S StopView) : Type 0 where
  pub asked : ℕ
  pub words : s.words ≡ asked ∷ []
  pub each : (i : ℕ) (v : StopView) → get_elem? s.views i ≡ some v → EachStop (FitsStop asked) (stop_hands v)
  pub one : (i j : ℕ) (v w : StopView) → get_elem? s.views i ≡ some v → get_elem? s.views j ≡ some w → has_mark (stop_hands v) ≡ true → has_mark (stop_hands w) ≡ true → i ≡ j

-- the marked seat set the word
abbrev pub Asks : {S : Type 0} → Step S → Me S StopView → ℕ → Me S StopView → Type 0
Asks s m stored n = n ≡ (stop_view stored m.0.own.marked, m.1)

-- the word that was found is seen
abbrev pub Sees : {S : Type 0} → Step S → Me S StopView → ℕ → Me S StopView → Type 0
Sees s m found n = (n ≡ (stop_view found m.0.own.marked, m.1)) × (m.0.own.value ≤ found) × (m.0.own.marked ≡ true → found ≡ m.0.own.value)
