-- What the only actor of a session enters while it answers a command.
use Rattle.std.specs.Prelude.{◌≡◌, ◌==◌, Bool, false, [], ◌∷◌, ◌++◌, IsTrue, None}
use Rattle.std.specs.List.{list_all}
use Rattle.resolver_model.specs.declared.history.Command.{Command}
use Rattle.resolver_model.specs.declared.history.Entry.{Entry}
use Rattle.resolver_model.specs.declared.history.Entry.TheVariants.{Say, Take, Put, Back}
use Rattle.resolver_model.specs.Histories.{History, cursor_at, out_at}
use Rattle.resolver_model.specs.Answers.{Setting, delivery_count}
use Rattle.search_core.specs.Sessions.{Session}
use Rattle.search_core.specs.declared.jobs.Said.{Said}

-- the session has one actor, which has no leaf out
pub record IsAlone (s : Setting) (history : History) : Type 0 where
  pub one : s.actors ≡ 1
  pub idle : out_at 0 history ≡ None

-- the only actor takes a leaf, or splits the one that it took
abbrev pub is_step : Entry → Bool
is_step (Take actor leaf) = actor == 0
is_step (Put actor leaf by learned) = actor == 0
is_step _ = false

-- a step, or a leaf given back
abbrev pub is_try : Entry → Bool
is_try (Back actor leaf) = actor == 0
is_try entry = is_step entry

-- The command was answered behind steps of the search, and by nothing else.
pub record IsAnswered (old new : Session) (command : Command) (said : Said) : Type 0 where
  pub steps : History
  pub own : IsTrue (list_all is_step steps)
  pub entered : new.history ≡ old.history ++ steps ++ Say 0 command said.reply ∷ []
  pub cursor : said.cursor ≡ cursor_at new.history
  pub deliveries : said.deliveries ≡ delivery_count new.history

-- Memory was wanting: nothing was said, and the leaf that was out was given back.
pub record IsGivenUp (old new : Session) : Type 0 where
  pub tries : History
  pub own : IsTrue (list_all is_try tries)
  pub entered : new.history ≡ old.history ++ tries
