-- Which job is out in a session, where at most one is.
use Rattle.std.specs.Prelude.{◌≡◌, ◌≢◌, ℕ, length, Option, Some, None}
use Rattle.resolver_model.specs.Problems.{Problem}
use Rattle.resolver_model.specs.Costs.{Table}
use Rattle.resolver_model.specs.Histories.{out_at}
use Rattle.search_core.specs.Sessions.{Session}
use Rattle.search_core.specs.Jobs.{IsOut}
use Rattle.search_core.specs.declared.jobs.Job.{Job}
use Rattle.search_core.specs.declared.jobs.Taken.{Taken}
use Rattle.search_core.specs.declared.jobs.Taken.TheVariants.{Work, Ready, Done, AllOut}

-- this job is out, and no other
pub record IsAlone (session : Session) (job : Job) : Type 0 where
  pub out : IsOut session.setting session.history job
  pub others : (who : ℕ) → job.actor ≢ who → out_at who session.history ≡ None

-- the job that is out, if there is one
abbrev pub AreHands : Session → Option Job → Type 0
AreHands session None = (who : ℕ) → out_at who session.history ≡ None
AreHands session (Some job) = IsAlone session job

-- the job that an actor got
abbrev pub job_in : Taken → Option Job
job_in (Work job) = Some job
job_in (Ready leaf) = None
job_in (AllOut leaf) = None
job_in Done = None

-- A session over this problem and these costs, for so many actors, with at most this job out.
pub record IsSeat (p : Problem) (table : Table) (actors : ℕ) (session : Session) (job : Option Job) : Type 0 where
  pub same_problem : session.setting.problem ≡ p
  pub same_table : session.setting.table ≡ table
  pub all : session.setting.actors ≡ actors
  pub rooms : length session.rooms ≡ actors
  pub hands : AreHands session job
