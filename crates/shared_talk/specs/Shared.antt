-- What a run of the dialogue over a shared session writes, reads and answers.
use Rattle.std.specs.Prelude.{◌≡◌, ◌⊎◌, ◌==◌, ℕ, Bool, true, [], ◌∷◌, ◌++◌, None, IsTrue}
use Rattle.std.specs.List.{list_all}
use Rattle.resolver_model.specs.declared.history.Entry.{Entry}
use Rattle.resolver_model.specs.declared.history.Entry.TheVariants.{Say}
use Rattle.resolver_model.specs.Histories.{History}
use Rattle.cell_rule.specs.Views.{entries_by}
use Rattle.run_status.specs.declared.Status.{Status}
use Rattle.talk.specs.Transcripts.{Script, end_by, end_at}
use Rattle.talk.specs.Ends.{Scene, commands_in}
use Rattle.talk.specs.Runs.{IsTranscript, IsOver}

-- an answer is to actor 0, the one who speaks with the user
abbrev pub is_talkers : Entry → Bool
is_talkers (Say actor command said) = actor == 0
is_talkers _ = true

-- nobody else is answered
abbrev pub IsTalkerAlone : History → Type 0
IsTalkerAlone history = IsTrue (list_all is_talkers history)

-- what actor 0 entered
abbrev pub own_part : History → History
own_part history = entries_by 0 history

-- a scene, as far as actor 0 made it
abbrev pub own_scene : Scene → Scene
own_scene scene = record scene { history = own_part scene.history }

-- no answer stands behind one that makes an end
abbrev pub EndsLast : History → Type 0
EndsLast history = (before : History) (entry : Entry) (after : History) → history ≡ before ++ entry ∷ after → (end_by entry ≡ None) ⊎ (commands_in after ≡ [])

-- How a run over a shared session ended. Only actor 0 was answered, and what it entered makes up a whole run of the dialogue. The
-- commands that were answered, the end that the last answer makes, and the transcript are those of all entries.
pub record IsOverShared (s : Script) (status : Status) (lines : ℕ) (old new : Scene) : Type 0 where
  pub alone : IsTalkerAlone new.history
  pub own : IsOver s status lines old (own_scene new)
  pub commands : commands_in new.history ≡ commands_in (own_part new.history)
  pub end : end_at new.history ≡ end_at (own_part new.history)
  pub transcript : IsTranscript s status new.history own.written
  pub ends : EndsLast new.history
