-- What a slice of search does through its pass.
use Rattle.std.specs.Prelude.{◌≡◌, ◌⊎◌, ◌*◌, ◌<◌, ◌≤◌, ℕ, List, [], ◌∷◌, ◌++◌, length, true, None, ⊤, Result, Ok, Err}
use mathlib.Core.List.{IsPrefix}
use Rattle.resolver_model.specs.declared.lines.Line.{Line}
use Rattle.resolver_model.specs.declared.history.By.{By}
use Rattle.resolver_model.specs.declared.history.Entry.TheVariants.{Take, Put, Back}
use Rattle.resolver_model.specs.Histories.{History, out_at}
use Rattle.search_core.specs.Sessions.{IsTaken}
use Rattle.search_core.specs.declared.jobs.Job.{Job}
use Rattle.search_core.specs.declared.jobs.Taken.{Taken}
use Rattle.search_core.specs.declared.jobs.Taken.TheVariants as took
use Rattle.cell_rule.specs.declared.view.Hand.{Hand}
use Rattle.session_cell.specs.declared.next.Next.{Next}
use Rattle.session_cell.specs.declared.next.Next.TheVariants as next
use Rattle.session_cell.specs.Passes.{Cell, Pass, IsPassOf, HasOut}
use Rattle.search_thread.specs.declared.Tried.{Tried}
use Rattle.search_thread.specs.declared.Tried.TheVariants as tried
use Rattle.search_thread.specs.declared.SliceEnd.{SliceEnd}
use Rattle.search_thread.specs.declared.SliceEnd.TheVariants.{Made, Ready, Done, Stopped, AllOut, NoMemory}

-- each `Take` of this actor is ended by a `Put` of its own, and there is nothing else
abbrev pub ArePairs : ℕ → History → Type 0
ArePairs actor [] = ⊤
ArePairs actor (Take a leaf ∷ Put b split by learned ∷ es) = (a ≡ actor) × (b ≡ actor) × (split ≡ leaf) × ArePairs actor es
ArePairs actor _ = ⊥

-- nothing, or a leaf that was taken and given back
abbrev pub IsGivenUp : ℕ → History → Type 0
IsGivenUp actor entries = (entries ≡ []) ⊎ ((leaf : ℕ) × (entries ≡ Take actor leaf ∷ Back actor leaf ∷ []))

-- the pass is the same one
pub record IsSame (old new : Pass) : Type 0 where
  pub table : new.table ≡ old.table
  pub stops : new.stops ≡ old.stops
  pub start : new.hand.start ≡ old.hand.start
  pub actor : new.hand.actor ≡ old.hand.actor

-- the pass has seen what it had seen, and room that is kept for an answer stays
pub record IsOnward (old new : Pass) : Type 0 where
  pub begins : IsPrefix old.hand.seen new.hand.seen
  pub room : old.hand.reserved ≡ true → new.hand.reserved ≡ true

-- The pass made so many pairs and then these entries, and has no job out.
pub record IsSearched (old new : Hand) (pairs : ℕ) (rest : History) : Type 0 where
  pub entries : History
  pub made : new.made ≡ old.made ++ (entries ++ rest)
  pub paired : ArePairs old.actor entries
  pub count : length entries ≡ 2 * pairs
  pub idle : out_at old.actor new.made ≡ None

-- the pass searched, and gave its last leaf up where memory was wanting
pub record IsWorked (old new : Pass) : Type 0 where
  pub same : IsSame old new
  pub pairs : ℕ
  pub rest : History
  pub searched : IsSearched old.hand new.hand pairs rest
  pub given_up : IsGivenUp old.hand.actor rest

-- after all that the pass has seen, this answer is right to its actor that asks for a leaf
abbrev pub IsAskedFor : Pass → Taken → Type 0
IsAskedFor pass answer = IsTaken pass.hand.start.setting pass.hand.seen pass.hand.actor answer

-- what came of one try to search a leaf
abbrev pub IsTried : Pass → Pass → Tried → Type 0
IsTried old new tried.Split = IsSearched old.hand new.hand 1 []
IsTried old new tried.Ready = IsSearched old.hand new.hand 0 [] × ((leaf : ℕ) × IsAskedFor new (took.Ready leaf))
IsTried old new tried.Done = IsSearched old.hand new.hand 0 [] × IsAskedFor new took.Done
IsTried old new (tried.AllOut leaf) = IsSearched old.hand new.hand 0 [] × IsAskedFor new (took.AllOut leaf)
IsTried old new tried.NoMemory = (rest : History) × IsSearched old.hand new.hand 0 rest × IsGivenUp old.hand.actor rest

-- fewer pairs than the slice has steps, and then these entries
abbrev pub HasFewer : Pass → Pass → ℕ → History → Type 0
HasFewer old new most rest = (pairs : ℕ) × (pairs < most) × IsSearched old.hand new.hand pairs rest

-- The ways in which a slice ends. Where it was not stopped, each round that it loaded is earlier.
abbrev pub EndsAs : Pass → Pass → ℕ → ℕ → SliceEnd → Type 0
EndsAs old new round most (Made count) = (count ≡ most) × IsSearched old.hand new.hand most [] × (new.stop < round)
EndsAs old new round most Ready = HasFewer old new most [] × ((leaf : ℕ) × IsAskedFor new (took.Ready leaf)) × (new.stop < round)
EndsAs old new round most Done = HasFewer old new most [] × IsAskedFor new took.Done × (new.stop < round)
EndsAs old new round most (AllOut leaf) = HasFewer old new most [] × IsAskedFor new (took.AllOut leaf) × (new.stop < round)
EndsAs old new round most (Stopped value) = HasFewer old new most [] × (new.stop ≡ value) × (round ≤ value)
EndsAs old new round most NoMemory = (rest : History) × HasFewer old new most rest × IsGivenUp old.hand.actor rest × (new.stop < round)

-- the pass may begin a round: it came from the cell and has no job out
abbrev pub CanWork : Cell → Pass → Type 0
CanWork cell pass = IsPassOf cell pass × (out_at pass.hand.actor pass.hand.made ≡ None)

-- the pass of actor 0, which has asked to stop no round so late
abbrev pub CanTalk : Cell → ℕ → Pass → Type 0
CanTalk cell round pass = IsPassOf cell pass × (pass.hand.actor ≡ 0) × (pass.stop < round)

-- a pass, under a name that no type of a program has
abbrev pub Talker : Type 0
Talker = Pass

-- the leaf that was out was split, or given back
abbrev pub IsEndedBySplit : Pass → ℕ → Pass → Type 0
IsEndedBySplit old leaf new = (by : By) × (learned : List Line) × (new.hand.made ≡ old.hand.made ++ Put old.hand.actor leaf by learned ∷ [])

abbrev pub IsEndedByBack : Pass → ℕ → Pass → Type 0
IsEndedByBack old leaf new = new.hand.made ≡ old.hand.made ++ Back old.hand.actor leaf ∷ []

-- the job that was taken, or how a slice ends that got none
abbrev pub job_or_end : Next → Result Job SliceEnd
job_or_end (next.Taken (took.Work job)) = Ok job
job_or_end (next.Taken (took.Ready leaf)) = Err Ready
job_or_end (next.Taken took.Done) = Err Done
job_or_end (next.Taken (took.AllOut leaf)) = Err (AllOut leaf)
job_or_end (next.Stopped value) = Err (Stopped value)
job_or_end next.NoMemory = Err NoMemory

-- why a slice ends before all its steps are made
abbrev pub IsCause : Pass → ℕ → SliceEnd → Type 0
IsCause new round (Made count) = ⊥
IsCause new round Ready = ((leaf : ℕ) × IsAskedFor new (took.Ready leaf)) × (new.stop < round)
IsCause new round Done = IsAskedFor new took.Done × (new.stop < round)
IsCause new round (AllOut leaf) = IsAskedFor new (took.AllOut leaf) × (new.stop < round)
IsCause new round (Stopped value) = (new.stop ≡ value) × (round ≤ value)
IsCause new round NoMemory = new.stop < round

-- a slice took its first leaf, or ends with nothing made
abbrev pub IsBegun : Pass → Pass → ℕ → Result Job SliceEnd → Type 0
IsBegun old new round (Ok job) = (new.hand.made ≡ old.hand.made ++ Take old.hand.actor job.leaf ∷ []) × HasOut new job × (new.stop < round)
IsBegun old new round (Err ended) = (new.hand.made ≡ old.hand.made) × IsCause new round ended

-- The leaf that was out was split, and the next one taken, or none; or it was given back where memory was wanting.
abbrev pub IsGoneOn : Pass → ℕ → Pass → ℕ → Result Job SliceEnd → Type 0
IsGoneOn old leaf new round (Ok job) =
    (by : By) × (learned : List Line) × (new.hand.made ≡ old.hand.made ++ Put old.hand.actor leaf by learned ∷ Take old.hand.actor job.leaf ∷ []) × HasOut new job × (new.stop < round)
IsGoneOn old leaf new round (Err ended) = (IsEndedBySplit old leaf new ⊎ ((ended ≡ NoMemory) × IsEndedByBack old leaf new)) × IsCause new round ended
