-- What a run promises of its report.
use Rattle.std.specs.Prelude.{◌≡◌, ◌⊎◌, List, [], None, IsTrue}
use Rattle.apt_base.specs.Bytes.{SourceState, SinkState}
use Rattle.apt_base.specs.Files.{ShelfState}
use Rattle.clap.specs.Words.{Text}
use Rattle.grounds.specs.Grounds.{universe_of, problem_of, table_in, rules_in, refusal}
use Rattle.resolve_cli.specs.Beginnings.{IsRefusal}
use Rattle.resolve_cli.specs.Words.{is_accepted, settings_in}
use Rattle.resolve_cli.specs.declared.run.Report.{Report}
use Rattle.resolve_words.specs.Given.{Given}
use Rattle.resolver_model.specs.Answers.{Setting}
use Rattle.resolver_model.specs.Histories.{History}
use Rattle.resolver_model.specs.Legal.{IsLegal}
use Rattle.run_status.specs.declared.Status.TheVariants.{NoMemory}
use Rattle.search_core.specs.Sessions.{setting_of}
use Rattle.sources.specs.Sources.{Sources, AreSources}
use Rattle.talk.specs.Ends.{Scene}
use Rattle.talk.specs.Runs.{IsOver}
use Rattle.talk.specs.Transcripts.{Script}

-- What a run began with, or has left behind it.
pub record World : Type 0 where
  pub shelf : ShelfState
  pub input : SourceState
  pub out : SinkState

abbrev pub world : ShelfState → SourceState → SinkState → World
world shelf input out = record { shelf = shelf; input = input; out = out }

-- what the dialogue changes of a world, with the entries so far
abbrev pub scene : History → SourceState → SinkState → Scene
scene history input out = record { history = history; input = input; out = out }

-- Nothing was written, no line was read, and there is no entry.
pub record IsSilent (old new : Scene) (r : Report) : Type 0 where
  pub empty : r.history.items ≡ []
  pub unread : r.lines_read ≡ 0
  pub input : new.input ≡ old.input
  pub out : new.out ≡ old.out

-- A session was had: its history is legal, what was written is its transcript, its commands are those of the lines, and its end
-- has its cause.
pub record IsSpoken (s : Setting) (script : Script) (old new : Scene) (r : Report) : Type 0 where
  pub legal : IsLegal s r.history.items
  pub over : IsOver script r.status r.lines_read old new

-- Memory was wanting for a session, or one was had.
abbrev pub IsSpeech : Setting → Script → Scene → Scene → Report → Type 0
IsSpeech s script old new r = ((r.status ≡ NoMemory) × IsSilent old new r) ⊎ IsSpoken s script old new r

-- ---- the setting and the script that settings and texts give

-- the problem, the amounts and the first rules, the slice of the words, and one actor
abbrev pub setting_in : Given → Sources → Setting
setting_in g texts = setting_of (problem_of g texts) (table_in g texts) (rules_in g texts) g.slice 1

abbrev pub script_in : Given → Sources → Script
script_in g texts = record { universe = universe_of g texts; problem = problem_of g texts; table = table_in g texts }

-- ---- runs

-- what the dialogue changed
abbrev pub scene_in : World → History → Scene
scene_in w history = scene history w.input w.out

-- The run ended before its session: the input and the output are as they were.
pub record IsRefused (words : List Text) (old new : World) (r : Report) : Type 0 where
  pub silent : IsSilent (scene_in old []) (scene_in new r.history.items) r
  pub cause : IsRefusal words old.shelf new.shelf r.status

-- The run had a session over what the words and the texts that they name give.
pub record IsDialogue (words : List Text) (old new : World) (r : Report) : Type 0 where
  pub accepted : IsTrue (is_accepted words)
  pub texts : Sources
  pub read : AreSources old.shelf.files (settings_in words) texts
  pub unrefused : refusal (settings_in words) texts ≡ None
  pub spoken : IsSpoken (setting_in (settings_in words) texts) (script_in (settings_in words) texts) (scene_in old []) (scene_in new r.history.items) r

abbrev pub IsRun : List Text → World → World → Report → Type 0
IsRun words old new r = IsRefused words old new r ⊎ IsDialogue words old new r
