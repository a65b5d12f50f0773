-- Steps of the search, on their way to a reply.
use Rattle.std.specs.Prelude.{◌≡◌, ◌⊎◌, ◌<◌, ℕ, Bool, List, ◌++◌, IsTrue}
use Rattle.std.specs.List.{list_all}
use Rattle.resolver_model.specs.declared.lines.Line.{Line}
use Rattle.resolver_model.specs.declared.history.By.{By}
use Rattle.resolver_model.specs.declared.history.Entry.{Entry}
use Rattle.resolver_model.specs.declared.history.Entry.TheVariants.{Take, Put, Back}
use Rattle.resolver_model.specs.Histories.{History, puts_since}
use Rattle.resolver_model.specs.Answers.{situation_at}
use Rattle.resolver_model.specs.Trees.{is_some_wanted}
use Rattle.search_core.specs.Sessions.{Session, with_entry, HasRoom}
use Rattle.lone_search.specs.Answers.{IsAlone}

-- a leaf that is out was split
pub record IsSplit (old : Session) (actor leaf : ℕ) (new : Session) : Type 0 where
  pub by : By
  pub learned : List Line
  pub put : new ≡ with_entry old (Put actor leaf by learned)

-- a leaf that is out was given back
abbrev pub IsGivenBack : Session → ℕ → ℕ → Session → Type 0
IsGivenBack old actor leaf new = new ≡ with_entry old (Back actor leaf)

-- The only actor took a leaf, and split it.
pub record IsStep (old new : Session) : Type 0 where
  pub leaf : ℕ
  pub split : IsSplit (with_entry old (Take 0 leaf)) 0 leaf new

-- Nothing was done, or a leaf was taken and given back.
abbrev pub IsTried : Session → Session → Type 0
IsTried old new = (new ≡ old) ⊎ ((leaf : ℕ) × IsGivenBack (with_entry old (Take 0 leaf)) 0 leaf new)

-- The session went on by entries that pass a test, and keeps the same rooms.
pub record IsGoneOn (passes : Entry → Bool) (old new : Session) : Type 0 where
  pub entries : History
  pub own : IsTrue (list_all passes entries)
  pub entered : new.history ≡ old.history ++ entries
  pub setting : new.setting ≡ old.setting
  pub rooms : new.rooms ≡ old.rooms

-- A search on its way: some leaf is wanted, and the actor may make one more step.
pub record IsSearching (session : Session) : Type 0 where
  pub alone : IsAlone session.setting session.history
  pub wanted : IsTrue (is_some_wanted (situation_at session.setting session.history))
  pub room : HasRoom session 0
  pub few : puts_since 0 session.history < session.setting.slice
