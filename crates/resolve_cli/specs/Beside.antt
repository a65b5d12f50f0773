-- What a run promises whose session other threads may search beside the dialogue.
use Rattle.std.specs.Prelude.{◌≡◌, ◌⊎◌, ◌+◌, ℕ, List, [], ◌∷◌, ◌++◌, None, IsTrue, IsFalse}
use Rattle.std.specs.List.{list_any}
use Rattle.clap.specs.Words.{Text}
use Rattle.grounds.specs.Grounds.{problem_of, table_in, rules_in, refusal}
use Rattle.resolve_words.specs.Given.{Given}
use Rattle.resolver_model.specs.declared.history.Command.{Command}
use Rattle.resolver_model.specs.declared.history.Reply.{Reply}
use Rattle.resolver_model.specs.declared.history.Entry.TheVariants.{Say}
use Rattle.resolver_model.specs.Histories.{History}
use Rattle.resolver_model.specs.Answers.{Setting}
use Rattle.resolver_model.specs.Legal.{IsLegal}
use Rattle.laws_session.specs.Laws.{told, is_told, asked, is_wait, IsSameQuestion}
use Rattle.run_status.specs.declared.Status.TheVariants.{NoMemory}
use Rattle.search_core.specs.Sessions.{setting_of}
use Rattle.sources.specs.Sources.{Sources, AreSources}
use Rattle.talk.specs.Ends.{Scene}
use Rattle.talk.specs.Transcripts.{Script}
use Rattle.shared_talk.specs.Shared.{IsOverShared}
use Rattle.resolve_cli.specs.Reports.{World, scene_in, script_in, IsSilent, IsRefused}
use Rattle.resolve_cli.specs.Words.{is_accepted, settings_in}
use Rattle.resolve_cli.specs.declared.prepared.Prepared.{Prepared}
use Rattle.resolve_cli.specs.declared.run.Report.{Report}

-- A session was had: its history is legal, only actor 0 was answered, what was written is its transcript, its commands are those
-- of the lines, and its end has its cause.
pub record IsSpokenBeside (s : Setting) (script : Script) (old new : Scene) (r : Report) : Type 0 where
  pub legal : IsLegal s r.history.items
  pub over : IsOverShared script r.status r.lines_read old new

-- Memory was wanting for a session, or one was had.
abbrev pub IsSpeechBeside : Setting → Script → Scene → Scene → Report → Type 0
IsSpeechBeside s script old new r = ((r.status ≡ NoMemory) × IsSilent old new r) ⊎ IsSpokenBeside s script old new r

-- the setting of a session over what was prepared: an actor for the dialogue, and one for each worker
abbrev pub setting_for_all : Prepared → Setting
setting_for_all p = setting_of p.ground.basis.problem p.ground.basis.table p.ground.rules p.slice (p.workers + 1)

abbrev pub setting_beside : Given → Sources → Setting
setting_beside g texts = setting_of (problem_of g texts) (table_in g texts) (rules_in g texts) g.slice (g.workers + 1)

-- The run had a session over what the words and the texts that they name give.
pub record IsDialogueBeside (words : List Text) (old new : World) (r : Report) : Type 0 where
  pub accepted : IsTrue (is_accepted words)
  pub texts : Sources
  pub read : AreSources old.shelf.files (settings_in words) texts
  pub unrefused : refusal (settings_in words) texts ≡ None
  pub spoken : IsSpokenBeside (setting_beside (settings_in words) texts) (script_in (settings_in words) texts) (scene_in old []) (scene_in new r.history.items) r

abbrev pub IsRunBeside : List Text → World → World → Report → Type 0
IsRunBeside words old new r = IsRefused words old new r ⊎ IsDialogueBeside words old new r

-- Where the answers so far were the same, "not yet" aside, two replies to one command are the same, "not yet" aside.
abbrev pub AreFreeOfSchedule : History → History → Type 0
AreFreeOfSchedule one other = (before after front back : History) (actor mate : ℕ) (command : Command) (reply answer : Reply) → one ≡ before ++ Say actor command reply ∷ after → other ≡ front ++ Say mate command answer ∷ back
    → told before ≡ told front → IsTrue (is_told (Say actor command reply)) → IsTrue (is_told (Say mate command answer)) → reply ≡ answer

-- Where the same commands were answered, and nothing by "not yet", all answers are the same.
abbrev pub AreAnsweredAlike : History → History → Type 0
AreAnsweredAlike one other = asked one ≡ asked other → IsFalse (list_any is_wait one) → IsFalse (list_any is_wait other) → told one ≡ told other

-- Two runs over the same problem, amounts and first rules. Their slices and counts of workers may differ.
abbrev pub IsSameRun : (words others : List Text) → Sources → Sources → Type 0
IsSameRun words others texts other_texts = IsSameQuestion (setting_beside (settings_in words) texts) (setting_beside (settings_in others) other_texts)
