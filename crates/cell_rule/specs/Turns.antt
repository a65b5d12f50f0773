-- The rule by which actors take turns, and what each step tells.
use Rattle.std.specs.Prelude.{◌≡◌, ◌≢◌, ◌⊎◌, ◌+◌, ◌*◌, ◌<◌, ℕ, Bool, true, false, List, [], ◌∷◌, ◌++◌, length, if◌then◌else◌, ⊤}
use mathlib.Core.Option.{Option, some}
use mathlib.Core.List.{IsPrefix}
use lib.ListN.{get_elem?}
use Rattle.atomic_table.specs.Table.{State, Me, Step}
use Rattle.resolver_model.specs.Histories.{History}
use Rattle.search_core.specs.Sessions.{Session}
use Rattle.cell_rule.specs.declared.view.Hand.{Hand}
use Rattle.cell_rule.specs.declared.view.Stage.{Stage}
use Rattle.cell_rule.specs.declared.view.Stage.TheVariants.{Spent, Waits, Holds, Opens}
use Rattle.cell_rule.specs.declared.view.View.{View}
use Rattle.cell_rule.specs.Views.{hands, stands, Each, has_turn, waiting, holding, informed, returned, no_session, AreBy, entries_by, IsKeptFor}

-- The turn word: twice the number of entries when the turn was last free, and 1 more while it is held.
abbrev pub turn_word : Bool → History → ℕ
turn_word held base = if held then 2 * length base + 1 else 2 * length base

-- What is known of an actor: it has seen a beginning of the base, and made its entries in it.
abbrev pub FitsHand : Session → History → Hand → Type 0
FitsHand start base h = (h.start ≡ start) × (h.actor < start.setting.actors) × IsPrefix h.seen base × (h.made ≡ entries_by h.actor base)

-- an actor that has a room has it among these
abbrev pub KeepsRoom : List Bool → Hand → Type 0
KeepsRoom rooms h = h.reserved ≡ true → IsKeptFor rooms h.actor

-- no two views stand for one actor
abbrev pub Apart : List View → Type 0
Apart views = (i j : ℕ) (v w : View) (actor : ℕ) → get_elem? views i ≡ some v → get_elem? views j ≡ some w → stands actor (hands v) ≡ true → stands actor (hands w) ≡ true → i ≡ j

-- What a view knows of the turn. Its holder has seen the whole base, and knows who else has a room.
abbrev pub Knows : History → Bool → ℕ → Option Session → List View → ℕ → View → Stage → Type 0
Knows base held holder home views i v Spent = ⊤
Knows base held holder home views i v Waits = ⊤
Knows base held holder home views i v (Holds rooms) =
    (held ≡ true) × (i ≡ holder) × (v.own.seen ≡ base)
    × ((j : ℕ) (w : View) → get_elem? views j ≡ some w → j ≢ i → Each (KeepsRoom rooms) (hands w))
Knows base held holder home views i v (Opens next) =
    (held ≡ true) × (i ≡ holder) × (v.own.seen ≡ base) × ((y : Session) × (home ≡ some y))
    × ((j : ℕ) (w : View) → get_elem? views j ≡ some w → Each (λ h. h.actor < next) (hands w))

-- one of the hands has seen all of the base
abbrev pub HasSeen : History → List Hand → Type 0
HasSeen base [] = ⊥
HasSeen base (h ∷ hs) = (h.seen ≡ base) ⊎ HasSeen base hs

-- What holds between any two steps. The base is the history when the turn was last free, and the longest that was seen. A free
-- turn has the session at home, and a session at home has the base as its history, and a room for each actor that has one.
pub record IsKept (start : Session) (s : State Session View) : Type 0 where
  pub base : History
  pub held : Bool
  pub holder : ℕ
  pub home : Option Session
  pub words : s.words ≡ turn_word held base ∷ []
  pub homes : s.homes ≡ home ∷ []
  pub inside : (y : Session) → home ≡ some y → (y.history ≡ base) × (y.setting ≡ start.setting) × ((i : ℕ) (v : View) → get_elem? s.views i ≡ some v → Each (KeepsRoom y.rooms) (hands v))
  pub free : held ≡ false → (y : Session) × (home ≡ some y)
  pub turn : held ≡ true → (v : View) × (get_elem? s.views holder ≡ some v) × (has_turn v.stage ≡ true)
  pub each : (i : ℕ) (v : View) → get_elem? s.views i ≡ some v → Each (FitsHand start base) (hands v) × Knows base held holder home s.views i v v.stage
  pub apart : Apart s.views
  pub known : (i : ℕ) × ((v : View) × (get_elem? s.views i ≡ some v) × HasSeen base (hands v))

-- what is told of the session that the holder took
abbrev pub Took : Hand → Session → Type 0
Took h y =
    (y.setting ≡ h.start.setting) × IsPrefix h.seen y.history × (h.made ≡ entries_by h.actor y.history) × KeepsRoom y.rooms h × (h.actor < h.start.setting.actors)

-- The turn was taken with the session, or another has it.
abbrev pub Claims : Step Session → Me Session View → ℕ → Me Session View → Type 0
Claims s m found n =
    let h = m.0.own in
    m ≡ (waiting h, []) → ((found ≡ s.first) × ((y : Session) × (n ≡ (holding y.rooms (informed h y), (0, y) ∷ [])) × Took h y)) ⊎ ((found ≢ s.first) × (n ≡ m))

-- the session was given back
abbrev pub Releases : Step Session → Me Session View → ℕ → Me Session View → Type 0
Releases s m stored n =
    let h = m.0.own in (rooms : List Bool) (y : Session) → m ≡ (holding rooms h, (0, y) ∷ []) → n ≡ (waiting (returned h y), [])

-- the turn was freed for the first time
abbrev pub Opened : Step Session → Me Session View → ℕ → Me Session View → Type 0
Opened s m stored n = n ≡ (waiting m.0.own, [])

abbrev pub session_at : List (ℕ × Session) → Session
session_at [] = no_session
session_at (x ∷ xs) = x.1

-- the session in the hands of a seat
abbrev pub session_of : Me Session View → Session
session_of m = session_at m.1

-- the seat holds the session and nothing else
abbrev pub HasSession : Me Session View → Type 0
HasSession m = m.1 ≡ (0, session_of m) ∷ []

-- the seat has the turn and the session
abbrev pub HasTurn : List Bool → Me Session View → Type 0
HasTurn rooms m = (m.0 ≡ holding rooms m.0.own) × HasSession m

-- What a call of an actor did to a session: it added entries, and kept the rooms of the others.
pub record IsStep (actor : ℕ) (old : Session) (entries : History) (new : Session) : Type 0 where
  pub setting : new.setting ≡ old.setting
  pub history : new.history ≡ old.history ++ entries
  pub others : (other : ℕ) → other ≢ actor → IsKeptFor old.rooms other → IsKeptFor new.rooms other

-- A session that the holder of the turn may give back, after a call of its actor that added these entries.
pub record MayReturn (h : Hand) (rooms : List Bool) (y : Session) (entries : History) : Type 0 where
  pub setting : y.setting ≡ h.start.setting
  pub history : y.history ≡ h.seen ++ entries
  pub by : AreBy h.actor entries
  pub others : (other : ℕ) → other ≢ h.actor → IsKeptFor rooms other → IsKeptFor y.rooms other

-- the seat that took the turn with the session y, for the hand h
abbrev pub Entered : Hand → Session → Me Session View → Type 0
Entered h y m = m ≡ (holding y.rooms (informed h y), (0, y) ∷ [])

-- what a call of this actor left in the hands of the seat
pub record Called (actor : ℕ) (before : Me Session View) (entries : History) (after : Me Session View) : Type 0 where
  pub view : after.0 ≡ before.0
  pub has : HasSession after
  pub step : IsStep actor (session_of before) entries (session_of after)
