-- What is written of a history.
use Rattle.std.specs.Prelude.{ℕ, List, [], ◌∷◌, ◌++◌, Option, Some, None}
use Rattle.std.specs.List.{fold}
use Rattle.resolver_model.specs.declared.history.Reply.{Reply}
use Rattle.resolver_model.specs.declared.history.Reply.TheVariants as reply
use Rattle.resolver_model.specs.declared.history.Entry.{Entry}
use Rattle.resolver_model.specs.declared.history.Entry.TheVariants.{Say}
use Rattle.resolver_model.specs.Problems.{Problem}
use Rattle.resolver_model.specs.Costs.{Table}
use Rattle.resolver_model.specs.Histories.{History, cursor_at}
use Rattle.resolver_model.specs.Answers.{delivery_count}
use Rattle.universe_model.specs.Universes.{Universe}
use Rattle.dialogue.specs.Texts.{greeting, prompt, reply_text}
use Rattle.run_status.specs.declared.Status.{Status}
use Rattle.run_status.specs.declared.Status.TheVariants.{Accepted, Ended}
use Rattle.talk.specs.declared.Speaker.{Speaker}

-- what the texts depend on
pub record Script : Type 0 where
  pub universe : Universe
  pub problem : Problem
  pub table : Table

abbrev pub script_of : Speaker → Script
script_of speaker = record { universe = speaker.universe.now; problem = speaker.basis.now.problem; table = speaker.basis.now.table }

abbrev pub reply_of : Script → Reply → List ℕ
reply_of s said = reply_text s.universe s.problem s.table said

-- the prompt shows where the cursor stands, and how many sets were delivered
abbrev pub prompt_after : History → List ℕ
prompt_after history = prompt (cursor_at history) (delivery_count history)

-- what is written of an entry behind others: of an answer the prompt before its line, and the reply; of a step nothing
abbrev pub entry_text : Script → History → Entry → List ℕ
entry_text s before (Say actor command said) = prompt_after before ++ reply_of s said
entry_text s before _ = []

abbrev pub entries_text : Script → History → History → List ℕ
entries_text s before [] = []
entries_text s before (entry ∷ more) = entry_text s before entry ++ entries_text s (before ++ entry ∷ []) more

-- the end that a reply makes
abbrev pub end_of : Reply → Option Status
end_of reply.Accepted = Some Accepted
end_of reply.Ended = Some Ended
end_of _ = None

abbrev pub end_by : Entry → Option Status
end_by (Say actor command said) = end_of said
end_by _ = None

abbrev pub end_after : Option Status → Entry → Option Status
end_after end (Say actor command said) = end_of said
end_after end _ = end

-- the end that the last answer of a history makes
abbrev pub end_at : History → Option Status
end_at history = fold end_after None history

abbrev pub prompt_unless : Option Status → History → List ℕ
prompt_unless None history = prompt_after history
prompt_unless (Some end) history = []

-- what is written before the prompt that follows a history
abbrev pub spoken : Script → History → List ℕ
spoken s history = greeting s.problem ++ entries_text s [] history

-- The whole transcript: the greeting, what is written of each entry, and a last prompt unless the last answer makes an end.
abbrev pub transcript : Script → History → List ℕ
transcript s history = spoken s history ++ prompt_unless (end_at history) history
