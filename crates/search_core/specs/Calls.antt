-- What calls do to a session, one after the other.
use Rattle.std.specs.Prelude.{◌≡◌, ◌<◌, ℕ, true, List, [], ◌∷◌, Ok, None}
use Rattle.resolver_model.specs.declared.history.Command.{Command}
use Rattle.resolver_model.specs.declared.history.Entry.TheVariants.{Back}
use Rattle.resolver_model.specs.Histories.{out_at}
use Rattle.resolver_model.specs.Answers.{NamesChoice}
use Rattle.search_core.specs.Jobs.{IsOut}
use Rattle.search_core.specs.Sessions.{Session, HasRoom, IsTaken, IsAnswer, IsPut, with_entry, with_room, after_take, after_answer}
use Rattle.search_core.specs.declared.jobs.Job.{Job}
use Rattle.search_core.specs.declared.jobs.Taken.{Taken}
use Rattle.search_core.specs.declared.jobs.Answer.{Answer}

-- A call of any actor, with what it answered. A refused one met want of memory.
pub data Call : Type 0 where
  TakeCall : (actor : ℕ) (answer : Taken) → Call
  PutCall : (job : Job) → Call
  BackCall : (job : Job) → Call
  ReserveCall : (actor : ℕ) → Call
  AnswerCall : (actor : ℕ) (command : Command) (answer : Answer) → Call
  RefusedCall : Call

-- The call's conditions are met at the old session, its answer is right there, and the new session is the one after it.
abbrev pub IsCall : Call → Session → Session → Type 0
IsCall (TakeCall actor answer) old new =
    (actor < old.setting.actors) × (out_at actor old.history ≡ None) × IsTaken old.setting old.history actor answer × (new ≡ after_take old actor (Ok answer))
IsCall (PutCall job) old new = IsOut old.setting old.history job × IsPut old job new
IsCall (BackCall job) old new = IsOut old.setting old.history job × (new ≡ with_entry old (Back job.actor job.leaf))
IsCall (ReserveCall actor) old new = (actor < old.setting.actors) × (new ≡ with_room old actor true)
IsCall (AnswerCall actor command answer) old new =
    NamesChoice old.setting.problem command × HasRoom old actor × IsAnswer old.setting old.history actor command answer × (new ≡ after_answer old actor command (Ok answer))
IsCall RefusedCall old new = new ≡ old

-- the calls lead from one session to the other
abbrev pub AreCalls : List Call → Session → Session → Type 0
AreCalls [] old new = new ≡ old
AreCalls (call ∷ calls) old new = (next : Session) × IsCall call old next × AreCalls calls next new
