-- The turns of a run: a prompt, a line, a reply.
use Rattle.std.specs.Prelude.{◌≡◌, ◌⊎◌, ◌+◌, ◌≤◌, ◌<◌, ◌==◌, ◌&&◌, not, ℕ, Bool, true, List, [], ◌∷◌, ◌++◌, map, length, Option, Result, Ok, Err, Some, None, IfSome, IsTrue}
use Rattle.std.specs.Option.{IsSomeAnd, is_some}
use Rattle.std.specs.List.{list_all}
use Rattle.std.specs.Io.KnownBytes.{prepend_known}
use Rattle.apt_base.specs.Faults.{Rose}
use Rattle.apt_base.specs.Bytes.{SourceState, SinkState}
use Rattle.apt_base.specs.Lines.{lines_of, before_newline, most_line_bytes, InputReadsLine}
use Rattle.problem.specs.declared.limits.Which.TheVariants.{LineBytes}
use Rattle.resolver_model.specs.declared.history.Command.{Command}
use Rattle.resolver_model.specs.declared.history.Reply.{Reply}
use Rattle.resolver_model.specs.declared.history.Entry.{Entry}
use Rattle.resolver_model.specs.declared.history.Entry.TheVariants.{Say}
use Rattle.resolver_model.specs.Histories.{History}
use Rattle.dialogue.specs.Lines.{command_of}
use Rattle.lone_search.specs.Answers.{is_step, is_try}
use Rattle.run_status.specs.declared.Status.{Status}
use Rattle.run_status.specs.declared.Status.TheVariants.{Ended, ReadFault, WriteFault, NoMemory, Limit}
use Rattle.talk.specs.Transcripts.{Script, reply_of, spoken, end_of}
use Rattle.talk.specs.Ends.{Scene, behind_lines, commands_in, answered}
use Rattle.talk.specs.Runs.{IsFront, IsWritten, IsLaterSource, IsLaterSink, AreShort, IsOver}

-- A part of a text was written: the sink failed, or memory was wanting.
pub record IsUnsaid (text : List ℕ) (old new : SinkState) (status : Status) : Type 0 where
  pub part : List ℕ
  pub told : IsWritten old new part
  pub front : IsFront part text
  pub cut : ((status ≡ WriteFault) × Rose old.faults new.faults) ⊎ (status ≡ NoMemory)

-- What became of a text.
abbrev pub IsSaid : List ℕ → SinkState → SinkState → Result (Unit {0}) Status → Type 0
IsSaid text old new (Ok _) = IsWritten old new text
IsSaid text old new (Err status) = IsUnsaid text old new status

-- A line was taken from what is held and left, and gives this command.
pub record IsLineTaken (s : Script) (held held_now : List ℕ) (old new : SourceState) (command : Command) : Type 0 where
  pub line : List ℕ
  pub read : InputReadsLine (prepend_known held old.left) (Ok true) line (prepend_known held_now new.left)
  pub command_is : command ≡ command_of s.universe s.problem line
  pub held_few : length held_now ≤ 4097

-- Why no line was taken.
abbrev pub IsNoLine : Option (List ℕ) → SourceState → SourceState → Status → Type 0
IsNoLine input old new Ended = IfSome input (λ bytes. bytes ≡ [])
IsNoLine input old new ReadFault = Rose old.faults new.faults
IsNoLine input old new (Limit LineBytes count) = (count ≡ most_line_bytes + 1) × IfSome input (λ bytes. most_line_bytes < length (before_newline bytes))
IsNoLine input old new NoMemory = Unit {0}
IsNoLine input old new _ = ⊥

-- What became of the next line.
abbrev pub IsHeard : Script → List ℕ → List ℕ → SourceState → SourceState → Result Command Status → Type 0
IsHeard s held held_now old new (Ok command) = IsLineTaken s held held_now old new command
IsHeard s held held_now old new (Err status) = IsNoLine (prepend_known held old.left) old new status

-- A command was answered behind steps of the search.
pub record IsEntered (command : Command) (said : Reply) (old new : History) : Type 0 where
  pub steps : History
  pub own : IsTrue (list_all is_step steps)
  pub entered : new ≡ old ++ steps ++ Say 0 command said ∷ []

-- Nothing was answered, for want of memory.
pub record IsUnanswered (status : Status) (old new : History) : Type 0 where
  pub tries : History
  pub own : IsTrue (list_all is_try tries)
  pub entered : new ≡ old ++ tries
  pub cause : status ≡ NoMemory

-- the reply was written, and makes this end or none
pub record IsReply (s : Script) (said : Reply) (end : Option Status) (old new : SinkState) : Type 0 where
  pub told : IsWritten old new (reply_of s said)
  pub ends : end_of said ≡ end

-- What became of a command.
abbrev pub IsReplied : Script → Command → History → History → SinkState → SinkState → Result (Unit {0}) Status → Type 0
IsReplied s command history history_now old new (Ok _) = (said : Reply) × IsEntered command said history history_now × IsReply s said None old new
IsReplied s command history history_now old new (Err status) =
    ((said : Reply) × IsEntered command said history history_now × (IsReply s said (Some status) old new ⊎ IsUnsaid (reply_of s said) old new status))
    ⊎ (IsUnanswered status history history_now × (new ≡ old))

-- So much of an input is left behind the lines that gave these commands.
pub record AreTaken (s : Script) (commands : List Command) (input rest : List ℕ) : Type 0 where
  pub behind : rest ≡ behind_lines (length commands) input
  pub taken : List (List ℕ)
  pub lines : lines_of input ≡ taken ++ lines_of rest
  pub read : commands ≡ map (command_of s.universe s.problem) taken
  pub short : AreShort (length commands) input

-- the same, where the input is told
abbrev pub IsLeft : Script → List Command → Option (List ℕ) → Option (List ℕ) → Type 0
IsLeft s commands None now = now ≡ None
IsLeft s commands (Some input) now = IsSomeAnd now (AreTaken s commands input)

-- an answer of the only actor that makes no end, or a step of it
abbrev pub goes_on : Entry → Bool
goes_on (Say actor command said) = (actor == 0) && not (is_some (end_of said))
goes_on entry = is_step entry

-- What a run has come to before a prompt. `held` is what the reader has taken from the input and not given.
pub record IsSoFar (s : Script) (lines : ℕ) (held : List ℕ) (old now : Scene) : Type 0 where
  pub lines_are : lines ≡ answered now.history
  pub told : IsWritten old.out now.out (spoken s now.history)
  pub left : IsLeft s (commands_in now.history) old.input.left (prepend_known held now.input.left)
  pub held_few : length held ≤ 4097
  pub going : IsTrue (list_all goes_on now.history)
  pub input : IsLaterSource old.input now.input
  pub out : IsLaterSink old.out now.out

-- Runs that have come to the one scene come to the other.
abbrev pub GoesOn : Script → ℕ → ℕ → List ℕ → List ℕ → Scene → Scene → Type 0
GoesOn s lines lines_now held held_now old new = (first : Scene) → IsSoFar s lines held first old → IsSoFar s lines_now held_now first new

-- Runs that have come to the one scene end at the other.
abbrev pub GoesOut : Script → Status → ℕ → ℕ → List ℕ → Scene → Scene → Type 0
GoesOut s status lines lines_now held old new = (first : Scene) → IsSoFar s lines held first old → IsOver s status lines_now first new
