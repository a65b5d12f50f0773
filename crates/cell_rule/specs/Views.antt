-- What actors know of the session that they share: for each, what it has seen and made.
use Rattle.std.specs.Prelude.{◌≡◌, ℕ, suc, Bool, true, false, ◌==◌, ◌||◌, List, [], ◌∷◌, ◌++◌, slice_index_or, IsTrue, ⊤}
use Rattle.std.specs.List.{filter}
use Rattle.resolver_model.specs.declared.history.Entry.{Entry}
use Rattle.resolver_model.specs.declared.history.Entry.TheVariants.{Say, Take, Put, Back}
use Rattle.resolver_model.specs.Histories.{History}
use Rattle.resolver_model.specs.Rules.{no_rules}
use Rattle.search_core.specs.Sessions.{Session, setting_of}
use Rattle.cell_rule.specs.declared.view.Hand.{Hand}
use Rattle.cell_rule.specs.declared.view.Stage.{Stage}
use Rattle.cell_rule.specs.declared.view.Stage.TheVariants.{Spent, Waits, Holds, Opens}
use Rattle.cell_rule.specs.declared.view.View.{View}

abbrev pub actor_of : Entry → ℕ
actor_of (Say actor command reply) = actor
actor_of (Take actor leaf) = actor
actor_of (Put actor leaf by learned) = actor
actor_of (Back actor leaf) = actor

-- the entries of one actor, in order
abbrev pub entries_by : ℕ → History → History
entries_by who history = filter (λ e. actor_of e == who) history

-- the entries are all of one actor
abbrev pub AreBy : ℕ → History → Type 0
AreBy actor [] = ⊤
AreBy actor (e ∷ es) = (actor_of e ≡ actor) × AreBy actor es

abbrev pub hands_at : Stage → Hand → List Hand → List Hand
hands_at Spent own joined = []
hands_at Waits own joined = own ∷ joined
hands_at (Holds others) own joined = own ∷ joined
hands_at (Opens next) own joined = own ∷ joined

-- the hands of the actors that a view stands for
abbrev pub hands : View → List Hand
hands v = hands_at v.stage v.own v.joined

-- one of the hands is this actor's
abbrev pub stands : ℕ → List Hand → Bool
stands actor [] = false
stands actor (h ∷ hs) = (h.actor == actor) || stands actor hs

abbrev pub Each : (Hand → Type 0) → List Hand → Type 0
Each P [] = ⊤
Each P (h ∷ hs) = P h × Each P hs

-- of these rooms one is kept for the actor's next answer
abbrev pub IsKeptFor : List Bool → ℕ → Type 0
IsKeptFor rooms actor = IsTrue (slice_index_or rooms actor false)

abbrev pub has_turn : Stage → Bool
has_turn Spent = false
has_turn Waits = false
has_turn (Holds others) = true
has_turn (Opens next) = true

-- between two calls
abbrev pub waiting : Hand → View
waiting h = record { stage = Waits; own = h; joined = [] }

-- with other hands taken in
abbrev pub gathered : Hand → List Hand → View
gathered h joined = record { stage = Waits; own = h; joined = joined }

-- the holder of the turn, which took a session with these rooms
abbrev pub holding : List Bool → Hand → View
holding rooms h = record { stage = Holds rooms; own = h; joined = [] }

-- the first view, before the session is shared. Actors from `next` on have no view yet.
abbrev pub opening : ℕ → Hand → View
opening next h = record { stage = Opens next; own = h; joined = [] }

-- an actor that has seen this much, and has no room kept
abbrev pub newcomer : Session → History → ℕ → Hand
newcomer start seen actor = record { start = start; actor = actor; seen = seen; made = entries_by actor seen; reserved = false }

abbrev pub first_view : Session → View
first_view start = opening 1 (newcomer start start.history 0)

-- the hand with the whole history of the session that it took
abbrev pub informed : Hand → Session → Hand
informed h y = record h { seen = y.history }

-- the hand after a call that left the session so
abbrev pub returned : Hand → Session → Hand
returned h y = record { start = h.start; actor = h.actor; seen = y.history; made = entries_by h.actor y.history; reserved = slice_index_or y.rooms h.actor false }

abbrev pub next_stage : Stage → Stage
next_stage (Opens next) = Opens (suc next)
next_stage Spent = Spent
next_stage Waits = Waits
next_stage (Holds others) = Holds others

abbrev pub next_actor : Stage → ℕ
next_actor (Opens next) = next
next_actor Spent = 0
next_actor Waits = 0
next_actor (Holds others) = 0

abbrev pub left_of : View → View
left_of v = record { stage = next_stage v.stage; own = v.own; joined = v.joined }

abbrev pub right_of : View → View
right_of v = waiting (newcomer v.own.start v.own.seen (next_actor v.stage))

-- the hands of both, in one view
abbrev pub both_of : View → View → View
both_of v w = record { stage = v.stage; own = w.own; joined = w.joined ++ hands v }

-- a session that nobody looks at
abbrev pub no_session : Session
no_session =
    let setting = setting_of (record { owners = []; starts = []; dependencies = [] }) (record { choices = 0; levels = [] }) no_rules 0 0 in
    record { setting = setting; history = []; rooms = [] }

abbrev pub spent_view : View
spent_view = record { stage = Spent; own = newcomer no_session [] 0; joined = [] }
