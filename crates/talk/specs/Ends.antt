-- Why a run of the dialogue ends.
use Rattle.std.specs.Prelude.{◌≡◌, ◌⊎◌, ◌+◌, ◌<◌, ℕ, zero, suc, List, length, Option, Some, None, IfSome}
use Rattle.std.specs.List.{filter_map}
use Rattle.apt_base.specs.Faults.{Rose}
use Rattle.apt_base.specs.Bytes.{SourceState, SinkState}
use Rattle.apt_base.specs.Lines.{lines_of, before_newline, behind_newline, most_line_bytes}
use Rattle.problem.specs.declared.limits.Which.TheVariants.{LineBytes, DialogueLines}
use Rattle.resolver_model.specs.declared.history.Command.{Command}
use Rattle.resolver_model.specs.declared.history.Entry.{Entry}
use Rattle.resolver_model.specs.declared.history.Entry.TheVariants.{Say}
use Rattle.resolver_model.specs.Histories.{History}
use Rattle.run_status.specs.declared.Status.{Status}
use Rattle.run_status.specs.declared.Status.TheVariants.{Accepted, Ended, ReadFault, WriteFault, NoMemory, Limit}
use Rattle.talk.specs.Transcripts.{end_at}

-- what a run changes: its entries, the input and the output
pub record Scene : Type 0 where
  pub history : History
  pub input : SourceState
  pub out : SinkState

-- the most lines that are answered
abbrev pub most_lines : ℕ
most_lines = 100000

-- what is left of an input behind its first lines
abbrev pub behind_lines : ℕ → List ℕ → List ℕ
behind_lines zero bytes = bytes
behind_lines (suc n) bytes = behind_newline (behind_lines n bytes)

abbrev pub command_in : Entry → Option Command
command_in (Say actor command said) = Some command
command_in _ = None

-- the commands that were answered, in order
abbrev pub commands_in : History → List Command
commands_in history = filter_map command_in history

-- how many lines were answered
abbrev pub answered : History → ℕ
answered history = length (commands_in history)

-- Why a run ended that went from one scene to another.
abbrev pub IsEnd : Scene → Scene → Status → Type 0
IsEnd old new Accepted = end_at new.history ≡ Some Accepted
IsEnd old new Ended = (end_at new.history ≡ Some Ended) ⊎ IfSome old.input.left (λ bytes. length (lines_of bytes) ≡ answered new.history)
IsEnd old new ReadFault = Rose old.input.faults new.input.faults
IsEnd old new WriteFault = Rose old.out.faults new.out.faults
IsEnd old new (Limit LineBytes count) =
    (count ≡ most_line_bytes + 1) × IfSome old.input.left (λ bytes. most_line_bytes < length (before_newline (behind_lines (answered new.history) bytes)))
IsEnd old new (Limit DialogueLines count) =
    (count ≡ most_lines + 1) × (answered new.history ≡ most_lines) × IfSome old.input.left (λ bytes. most_lines < length (lines_of bytes))
IsEnd old new NoMemory = Unit {0}
IsEnd old new _ = ⊥
