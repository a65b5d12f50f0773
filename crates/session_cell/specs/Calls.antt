-- What the calls of a shared session add to its history, and the jobs that they give out.
use Rattle.std.specs.Prelude.{◌≡◌, ◌<◌, ◌≤◌, ℕ, List, [], ◌∷◌, ◌++◌, Result, Ok, Err, ⊤}
use Rattle.choice_set.specs.declared.NoMemory.{NoMemory}
use Rattle.resolver_model.specs.declared.lines.Line.{Line}
use Rattle.resolver_model.specs.declared.history.Command.{Command}
use Rattle.resolver_model.specs.declared.history.Entry.{Entry}
use Rattle.resolver_model.specs.declared.history.Entry.TheVariants.{Say, Take, Put, Back}
use Rattle.resolver_model.specs.Histories.{History}
use Rattle.resolver_model.specs.Answers.{Setting}
use Rattle.resolver_model.specs.Learning.{LearnsUpwards}
use Rattle.search_core.specs.Jobs.{IsOut}
use Rattle.search_core.specs.Sessions.{Session, IsTaken, IsJobOut}
use Rattle.search_core.specs.Ways.{way}
use Rattle.search_core.specs.declared.jobs.Job.{Job}
use Rattle.search_core.specs.declared.jobs.Taken.{Taken}
use Rattle.search_core.specs.declared.jobs.Taken.TheVariants.{Work}
use Rattle.search_core.specs.declared.jobs.Answer.{Answer}
use Rattle.search_core.specs.declared.jobs.Answer.TheVariants as answer
use Rattle.cell_rule.specs.Views.{entries_by}
use Rattle.session_cell.specs.declared.next.Next.{Next}
use Rattle.session_cell.specs.declared.next.Next.TheVariants as next

-- the entries of a call that takes a leaf
abbrev pub taken : ℕ → Result Taken NoMemory → History
taken actor (Ok (Work job)) = Take actor job.leaf ∷ []
taken actor _ = []

-- the entries of a call that answers a command
abbrev pub said : ℕ → Command → Result Answer NoMemory → History
said actor command (Ok (answer.Said told)) = Say actor command told.reply ∷ []
said actor command _ = []

-- the entry of a job that was put, with what was learned
abbrev pub put_entry : Setting → Job → List Line → Entry
put_entry s job learned = Put job.actor job.leaf (way s.problem job.node job.choice) learned

-- The entries of a call that puts a job: one, which learns; or none where the job comes back.
abbrev pub ArePut : Setting → History → Job → Result (Unit {0}) Job → History → Type 0
ArePut s before job (Ok done) entries = (learned : List Line) × (entries ≡ put_entry s job learned ∷ []) × LearnsUpwards s before (put_entry s job learned)
ArePut s before job (Err refused) entries = (entries ≡ []) × (refused ≡ job)

-- the entries of what an actor got that put a job and asked for the next leaf
abbrev pub next_taken : ℕ → Next → History
next_taken actor (next.Taken answer) = taken actor (Ok answer)
next_taken actor _ = []

-- the right answer to an actor that asks for the next leaf
abbrev pub IsNext : Setting → History → ℕ → Next → Type 0
IsNext s before actor (next.Taken answer) = IsTaken s before actor answer
IsNext s before actor _ = ⊤

-- a job that an actor got after a put is out
abbrev pub IsNextOut : Session → Next → Type 0
IsNextOut session (next.Taken answer) = IsJobOut session answer
IsNextOut session _ = ⊤

-- The entries of a turn that puts a job and takes the next leaf: those of the put, and then those of the take, whose answer is
-- right behind the put; or none where the job comes back.
abbrev pub ArePutAndTaken : Setting → History → Job → Result Next Job → History → Type 0
ArePutAndTaken s before job (Ok got) entries = (put : History) × ArePut s before job (Ok tt) put × (entries ≡ put ++ next_taken job.actor got) × IsNext s (before ++ put) job.actor got
ArePutAndTaken s before job (Err refused) entries = ArePut s before job (Err refused) entries

-- no leaf is asked for where a round from this one on was asked to stop
abbrev pub HeedsStop : ℕ → ℕ → Next → Type 0
HeedsStop round asked (next.Stopped value) = (asked ≡ value) × (round ≤ value)
HeedsStop round asked _ = asked < round

-- the entry of a job that was given back
abbrev pub given_back : Job → History
given_back job = Back job.actor job.leaf ∷ []

-- The job was out at a beginning of the history, and its actor made no entry since.
abbrev pub WasOut : Setting → History → Job → Type 0
WasOut s history job = (seen rest : History) × (history ≡ seen ++ rest) × (entries_by job.actor rest ≡ []) × IsOut s seen job
