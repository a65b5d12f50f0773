-- What contracts see of a shared session and its passes.
use Rattle.std.specs.Prelude.{◌≤◌, ◌==◌, ◌≡◌, ℕ, zero, suc, true, List, [], ◌∷◌, ◌++◌, ◌<◌, ⊤}
use mathlib.Core.List.{IsPrefix}
use Rattle.atomic_table.specs.Seated.{TableId}
use Rattle.resolver_model.specs.Histories.{History}
use Rattle.resolver_model.specs.Legal.{IsLegal}
use Rattle.search_core.specs.Jobs.{IsOut}
use Rattle.search_core.specs.Sessions.{Session}
use Rattle.search_core.specs.declared.jobs.Job.{Job}
use Rattle.search_core.specs.declared.jobs.Taken.{Taken}
use Rattle.search_core.specs.declared.jobs.Taken.TheVariants.{Work}
use Rattle.cell_rule.specs.declared.view.Hand.{Hand}
use Rattle.cell_rule.specs.declared.stop.StopHand.{StopHand}
use Rattle.cell_rule.specs.Stops.{stop_hand}
use Rattle.cell_rule.specs.Views.{newcomer, stands, entries_by}
use Rattle.session_cell.specs.declared.next.Next.{Next}
use Rattle.session_cell.specs.declared.next.Next.TheVariants as next

-- which tables it has, and the session at the start
pub record Cell : Type 0 where
  pub table : TableId
  pub stops : TableId
  pub start : Session

-- which tables it is of, what its actor has seen and made, and the greatest round that it set or loaded
pub record Pass : Type 0 where
  pub table : TableId
  pub stops : TableId
  pub hand : Hand
  pub stop : ℕ

-- the pass came from this cell
abbrev pub IsPassOf : Cell → Pass → Type 0
IsPassOf cell pass = (pass.table ≡ cell.table) × (pass.stops ≡ cell.stops) × (pass.hand.start ≡ cell.start)

-- the job is the one that the pass's actor has out
abbrev pub HasOut : Pass → Job → Type 0
HasOut pass job = (job.actor ≡ pass.hand.actor) × IsOut pass.hand.start.setting pass.hand.seen job

-- a job that was given out is out
abbrev pub HasTaken : Pass → Taken → Type 0
HasTaken pass (Work job) = HasOut pass job
HasTaken pass _ = ⊤

-- a job that came after a put is out
abbrev pub HasNext : Pass → Next → Type 0
HasNext pass (next.Taken answer) = HasTaken pass answer
HasNext pass _ = ⊤

-- the pass knows of this round that was asked to stop
abbrev pub knowing : Pass → ℕ → Pass
knowing pass stop = record pass { stop = stop }

-- After a call that added these entries behind `before`, the pass has seen a legal history, which begins with what it had
-- seen and ends with them, and has made them each once.
pub record IsTurn (old : Pass) (before entries : History) (new : Pass) : Type 0 where
  pub table : new.table ≡ old.table
  pub stops : new.stops ≡ old.stops
  pub stop : new.stop ≡ old.stop
  pub start : new.hand.start ≡ old.hand.start
  pub actor : new.hand.actor ≡ old.hand.actor
  pub begins : IsPrefix old.hand.seen before
  pub seen : new.hand.seen ≡ before ++ entries
  pub legal : IsLegal new.hand.start.setting new.hand.seen
  pub made : new.hand.made ≡ old.hand.made ++ entries
  pub own : new.hand.made ≡ entries_by new.hand.actor new.hand.seen

-- the pass of an actor that has seen the history at the start
abbrev pub new_pass : TableId → TableId → Session → ℕ → Pass
new_pass table stops start actor = record { table = table; stops = stops; stop = 0; hand = newcomer start start.history actor }

-- the passes of the actors below a number
abbrev pub passes_below : TableId → TableId → Session → ℕ → List Pass
passes_below table stops start zero = []
passes_below table stops start (suc n) = passes_below table stops start n ++ new_pass table stops start n ∷ []

-- the passes of the actors from 1 on, so many
abbrev pub passes_from_one : TableId → TableId → Session → ℕ → List Pass
passes_from_one table stops start zero = []
passes_from_one table stops start (suc n) = passes_from_one table stops start n ++ new_pass table stops start (suc n) ∷ []

abbrev pub hands_of : List Pass → List Hand
hands_of [] = []
hands_of (p ∷ ps) = p.hand ∷ hands_of ps

abbrev pub ArePassesOf : Cell → List Pass → Type 0
ArePassesOf cell [] = ⊤
ArePassesOf cell (p ∷ ps) = IsPassOf cell p × ArePassesOf cell ps

abbrev pub AreOfTable : TableId → List Pass → Type 0
AreOfTable table [] = ⊤
AreOfTable table (p ∷ ps) = (p.table ≡ table) × AreOfTable table ps

abbrev pub AreOfStops : TableId → List Pass → Type 0
AreOfStops stops [] = ⊤
AreOfStops stops (p ∷ ps) = (p.stops ≡ stops) × AreOfStops stops ps

abbrev pub stop_hands_of : List Pass → List StopHand
stop_hands_of [] = []
stop_hands_of (p ∷ ps) = stop_hand p.stop (p.hand.actor == 0) ∷ stop_hands_of ps

-- No pass saw a later round asked to stop than this one, which is the last that the pass of actor 0 asked.
abbrev pub AreStops : ℕ → List Pass → Type 0
AreStops asked [] = ⊤
AreStops asked (p ∷ ps) = (p.stop ≤ asked) × (p.hand.actor ≡ 0 → p.stop ≡ asked) × AreStops asked ps

-- each actor has one of the passes
abbrev pub HasAll : ℕ → List Pass → Type 0
HasAll actors passes = (actor : ℕ) → actor < actors → stands actor (hands_of passes) ≡ true

-- the history begins with what the actor has seen, and has of it just what it made
abbrev pub Holds : History → Hand → Type 0
Holds history h = IsPrefix h.seen history × (h.made ≡ entries_by h.actor history)
