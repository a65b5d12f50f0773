-- How a run's end is told: a line for standard error, and the exit status.
use Rattle.std.specs.Prelude.{◌≡◌, ℕ, List, [], ◌++◌, length, take, codes}
use Rattle.std.specs.Fmt.{decimal}
use Rattle.control_file.specs.declared.CtlKind.{CtlKind}
use Rattle.control_file.specs.declared.CtlKind.TheVariants as control
use Rattle.stanza.specs.declared.StanzaKind.{StanzaKind}
use Rattle.stanza.specs.declared.StanzaKind.TheVariants as stanza
use Rattle.universe_model.specs.declared.HintKind.{HintKind}
use Rattle.universe_model.specs.declared.HintKind.TheVariants as hint
use Rattle.universe_model.specs.declared.InputKind.{InputKind}
use Rattle.universe_model.specs.declared.InputKind.TheVariants.{Ctl, Stanza, Hint}
use Rattle.universe_model.specs.declared.FileKind.{FileKind}
use Rattle.universe_model.specs.declared.FileKind.TheVariants as file
use Rattle.problem.specs.declared.limits.Which.{Which}
use Rattle.problem.specs.declared.limits.Which.TheVariants.{FileBytes, Packages, Versions, Dependencies, Targets, LevelAmount, LineBytes, DialogueLines}
use Rattle.resolve_words.specs.declared.ends.UsageFault.{UsageFault}
use Rattle.resolve_words.specs.declared.ends.UsageFault.TheVariants.{Words, Cost, Arch, Sample, Files, Action}
use Rattle.run_status.specs.declared.Status.{Status}
use Rattle.run_status.specs.declared.Status.TheVariants.{Accepted, Ended, Usage, BadInput, ReadFault, WriteFault, NoMemory, Limit}

-- the first bytes stayed
abbrev pub IsKept : List ℕ → List ℕ → Type 0
IsKept old new = take (length old) new ≡ old

abbrev pub which_name : Which → List ℕ
which_name FileBytes = codes "FileBytes"
which_name Packages = codes "Packages"
which_name Versions = codes "Versions"
which_name Dependencies = codes "Dependencies"
which_name Targets = codes "Targets"
which_name LevelAmount = codes "LevelAmount"
which_name LineBytes = codes "LineBytes"
which_name DialogueLines = codes "DialogueLines"

abbrev pub file_name : FileKind → List ℕ
file_name file.Status = codes "status"
file_name file.Packages = codes "packages"
file_name file.Hints = codes "hints"

abbrev pub control_name : CtlKind → List ℕ
control_name control.NoColon = codes "NoColon"
control_name control.BadName = codes "BadName"
control_name control.NoFieldYet = codes "NoFieldYet"
control_name control.Twice = codes "Twice"
control_name control.ManyFields = codes "ManyFields"

abbrev pub stanza_name : StanzaKind → List ℕ
stanza_name stanza.NoPackage = codes "NoPackage"
stanza_name stanza.BadPackage = codes "BadPackage"
stanza_name stanza.BadStatus = codes "BadStatus"
stanza_name stanza.NoVersion = codes "NoVersion"
stanza_name stanza.BadVersion = codes "BadVersion"
stanza_name stanza.BadRelation = codes "BadRelation"

abbrev pub hint_name : HintKind → List ℕ
hint_name hint.BadHint = codes "BadHint"
hint_name hint.BadNumber = codes "BadNumber"
hint_name hint.BadCostName = codes "BadCostName"
hint_name hint.NeedsVersion = codes "NeedsVersion"
hint_name hint.NotAToken = codes "NotAToken"
hint_name hint.NoSuchPackage = codes "NoSuchPackage"
hint_name hint.NoSuchVersion = codes "NoSuchVersion"

abbrev pub kind_name : InputKind → List ℕ
kind_name (Ctl kind) = control_name kind
kind_name (Stanza kind) = stanza_name kind
kind_name (Hint kind) = hint_name kind

-- `aptres: usage: ..`, where bytes and actions are counted from 0
abbrev pub usage_line : UsageFault → List ℕ
usage_line Words = codes "aptres: usage: words not understood\n"
usage_line (Cost at) = codes "aptres: usage: cost spec, at byte " ++ decimal at ++ codes "\n"
usage_line Arch = codes "aptres: usage: architecture\n"
usage_line Sample = codes "aptres: usage: sample\n"
usage_line Files = codes "aptres: usage: files\n"
usage_line (Action word) = codes "aptres: usage: action " ++ decimal word ++ codes "\n"

-- `aptres: FILE line N: KIND`
abbrev pub input_line : FileKind → ℕ → InputKind → List ℕ
input_line file line kind = codes "aptres: " ++ file_name file ++ codes " line " ++ decimal line ++ codes ": " ++ kind_name kind ++ codes "\n"

-- `aptres: limit WHICH, N`
abbrev pub limit_line : Which → ℕ → List ℕ
limit_line which count = codes "aptres: limit " ++ which_name which ++ codes ", " ++ decimal count ++ codes "\n"

-- the line of an end, with its newline; none where the run was accepted or ended
abbrev pub fault_line : Status → List ℕ
fault_line Accepted = []
fault_line Ended = []
fault_line (Usage fault) = usage_line fault
fault_line (BadInput file line kind) = input_line file line kind
fault_line ReadFault = codes "aptres: read fault\n"
fault_line WriteFault = codes "aptres: write fault\n"
fault_line NoMemory = codes "aptres: no memory\n"
fault_line (Limit which count) = limit_line which count

abbrev pub exit_number : Status → ℕ
exit_number Accepted = 0
exit_number Ended = 1
exit_number (Usage fault) = 2
exit_number (BadInput file line kind) = 3
exit_number ReadFault = 4
exit_number WriteFault = 5
exit_number NoMemory = 6
exit_number (Limit which count) = 7
