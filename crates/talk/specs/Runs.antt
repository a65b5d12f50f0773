-- What a run of the dialogue writes, reads and answers.
use Rattle.std.specs.Prelude.{◌≡◌, ◌⊎◌, ◌+◌, ◌≤◌, ◌<◌, ◌==◌, ℕ, Bool, List, [], ◌∷◌, ◌++◌, map, length, take, Option, Some, None, IfSome, IsTrue}
use Rattle.std.specs.List.{list_all}
use Rattle.std.specs.Io.KnownBytes.{prepend_known, append_known}
use Rattle.apt_base.specs.Faults.{IsLater}
use Rattle.apt_base.specs.Bytes.{SourceState, SinkState}
use Rattle.apt_base.specs.Lines.{lines_of, before_newline, most_line_bytes}
use Rattle.resolver_model.specs.declared.history.Command.{Command}
use Rattle.resolver_model.specs.declared.history.Reply.{Reply}
use Rattle.resolver_model.specs.declared.history.Entry.{Entry}
use Rattle.resolver_model.specs.declared.history.Entry.TheVariants.{Say}
use Rattle.resolver_model.specs.Histories.{History}
use Rattle.dialogue.specs.Lines.{command_of}
use Rattle.dialogue.specs.Texts.{greeting}
use Rattle.lone_search.specs.Answers.{is_step}
use Rattle.problem.specs.declared.limits.Which.TheVariants.{DialogueLines}
use Rattle.run_status.specs.declared.Status.{Status}
use Rattle.run_status.specs.declared.Status.TheVariants.{WriteFault, NoMemory, Limit}
use Rattle.talk.specs.Transcripts.{Script, transcript, end_by, end_at}
use Rattle.talk.specs.Ends.{Scene, most_lines, behind_lines, commands_in, answered, IsEnd}

-- the first bytes of others
abbrev pub IsFront : List ℕ → List ℕ → Type 0
IsFront front bytes = (rest : List ℕ) × (bytes ≡ front ++ rest)

-- the sink has got these bytes and no others (which it may not tell)
abbrev pub IsWritten : SinkState → SinkState → List ℕ → Type 0
IsWritten old new bytes = new.written ≡ append_known old.written bytes

-- a run with this status may have written only a part
abbrev pub IsCutShort : Status → Type 0
IsCutShort status = (status ≡ WriteFault) ⊎ (status ≡ NoMemory)

-- What was written is the transcript of the history. After a write fault or want of memory it is a front of it, which begins
-- with the transcript of the entries before the last answer.
pub record IsTranscript (s : Script) (status : Status) (history : History) (written : List ℕ) : Type 0 where
  pub front : IsFront written (transcript s history)
  pub whole : IsCutShort status ⊎ (written ≡ transcript s history)
  pub begins : (before : History) (actor : ℕ) (command : Command) (said : Reply) (after : History)
      → history ≡ before ++ Say actor command said ∷ after → commands_in after ≡ [] → IsFront (transcript s before) written

-- each of the first lines of an input has at most 4,096 bytes before its newline or the end
abbrev pub AreShort : ℕ → List ℕ → Type 0
AreShort count input = (k : ℕ) → k < count → length (before_newline (behind_lines k input)) ≤ most_line_bytes

-- The commands are those of the first lines of an input.
pub record AreOfLines (s : Script) (commands : List Command) (input : List ℕ) : Type 0 where
  pub enough : length commands ≤ length (lines_of input)
  pub read : commands ≡ map (command_of s.universe s.problem) (take (length commands) (lines_of input))
  pub short : AreShort (length commands) input

-- behind the first lines stand at most 4,097 bytes that the reader held or took last, and then what is left
abbrev pub IsLeftBehind : ℕ → List ℕ → Option (List ℕ) → Type 0
IsLeftBehind count input left = (front : List ℕ) × (length front ≤ 4097) × (Some (behind_lines count input) ≡ prepend_known front left)

-- nothing stands behind an answer that makes an end
abbrev pub EndsOnce : History → Type 0
EndsOnce history = (before : History) (entry : Entry) (after : History) → history ≡ before ++ entry ∷ after → (end_by entry ≡ None) ⊎ (after ≡ [])

-- answers of the only actor, and its steps: no leaf is given back
abbrev pub is_own : Entry → Bool
is_own (Say actor command said) = actor == 0
is_own entry = is_step entry

-- How many lines were read: those that were answered, and one more where there are too many. Where memory is wanting, there
-- may be one more.
abbrev pub IsLinesRead : Status → ℕ → ℕ → Type 0
IsLinesRead (Limit DialogueLines count) answers lines = lines ≡ most_lines + 1
IsLinesRead NoMemory answers lines = (lines ≡ answers) ⊎ (lines ≡ answers + 1)
IsLinesRead status answers lines = lines ≡ answers

-- an input later on: it is as sure, and its count of faults has not fallen
pub record IsLaterSource (old new : SourceState) : Type 0 where
  pub sure : new.sure ≡ old.sure
  pub faults : IsLater old.faults new.faults

pub record IsLaterSink (old new : SinkState) : Type 0 where
  pub room : new.room ≡ old.room
  pub faults : IsLater old.faults new.faults

-- How a run ended, which went from one scene without entries to another.
pub record IsOver (s : Script) (status : Status) (lines : ℕ) (old new : Scene) : Type 0 where
  pub written : List ℕ
  pub told : IsWritten old.out new.out written
  pub transcript : IsTranscript s status new.history written
  -- before the greeting is written nothing is read
  pub untouched : IsFront (greeting s.problem) written ⊎ (new.input ≡ old.input)
  pub commands : IfSome old.input.left (AreOfLines s (commands_in new.history))
  pub few : answered new.history ≤ most_lines
  pub lines_are : IsLinesRead status (answered new.history) lines
  pub left : IfSome old.input.left (λ bytes. IsLeftBehind (answered new.history) bytes new.input.left)
  pub ends : EndsOnce new.history
  pub own : (status ≡ NoMemory) ⊎ IsTrue (list_all is_own new.history)
  pub cause : IsEnd old new status
  -- the end that the last answer makes is the run's, where all was written
  pub closing : IfSome (end_at new.history) (λ end. IsCutShort status ⊎ (status ≡ end))
  pub input : IsLaterSource old.input new.input
  pub out : IsLaterSink old.out new.out
