-- The hints of a file, over a universe, and its first fault.
use Rattle.std.specs.Prelude.{◌≡◌, ◌⊎◌, ℕ, ◌-◌, Bool, ◌||◌, List, [], ◌∷◌, length, slice_index, Option, Some, None, Result, Ok, Err, if◌then◌else◌}
use Rattle.std.specs.List.{list_any, filter_map}
use Rattle.std.specs.Option.{option_map, option_and_then, option_or}
use Rattle.std.specs.Result.{result_ok, result_err}
use Rattle.ascii.specs.Bytes.{is_hyphen}
use Rattle.control_file.specs.Text.{Line, content, lines_from}
use Rattle.hint_effects.specs.declared.Hint.{Hint}
use Rattle.hint_effects.specs.declared.Hint.TheVariants.{Marks, Adds}
use Rattle.hint_effects.specs.declared.Target.{Target}
use Rattle.hint_effects.specs.declared.Target.TheVariants.{One, Whole, Nothing}
use Rattle.hint_lines.specs.HintTexts.{HintText, Reject, Approve, Add, said_by}
use Rattle.resolver_model.specs.declared.marks.Mark.{Mark}
use Rattle.resolver_model.specs.declared.marks.Mark.TheVariants.{Approved, Rejected}
use Rattle.universe.specs.TokenNumbers.{token_number}
use Rattle.universe_model.specs.Tokens.{is_equals}
use Rattle.universe_model.specs.Universes.{Universe, package_named}
use Rattle.universe_model.specs.declared.HintKind.{HintKind}
use Rattle.universe_model.specs.declared.HintKind.TheVariants.{NeedsVersion, NotAToken, NoSuchPackage, NoSuchVersion}
use Rattle.universe_model.specs.declared.TokenFault.{TokenFault}
use Rattle.universe_model.specs.declared.TokenFault.TheVariants as fault
use Rattle.hint_file.specs.declared.ends.HintEnd.{HintEnd}
use Rattle.hint_file.specs.declared.ends.HintEnd.TheVariants.{HintFault, NoMemory}

-- ---- targets

-- A target with a '=', or whose last byte is '-', is read as a token; another one is a package's name alone.
abbrev pub is_token_form : List ℕ → Bool
is_token_form text = list_any is_equals text || is_hyphen (slice_index text (length text - 1))

abbrev pub token_kind : TokenFault → HintKind
token_kind fault.NotAToken = NotAToken
token_kind fault.NoSuchPackage = NoSuchPackage
token_kind fault.NoSuchVersion = NoSuchVersion
token_kind fault.NotAChoice = NoSuchVersion

-- what a token is on: the choice that it names, if it is one
abbrev pub token_target : Result (Option ℕ) TokenFault → Result Target HintKind
token_target (Ok None) = Ok Nothing
token_target (Ok (Some n)) = Ok (One n)
token_target (Err fault) = Err (token_kind fault)

-- what a package's name is on: all its versions beside absent
abbrev pub name_target : Option ℕ → Result Target HintKind
name_target None = Err NoSuchPackage
name_target (Some q) = Ok (Whole q)

abbrev pub target_in : Universe → List ℕ → Result Target HintKind
target_in u text = if is_token_form text then token_target (token_number u text) else name_target (package_named u text)

-- what is approved is one choice
abbrev pub one_target_in : Universe → List ℕ → Result Target HintKind
one_target_in u text = if is_token_form text then token_target (token_number u text) else Err NeedsVersion

-- ---- hints

abbrev pub with_mark : Mark → Result Target HintKind → Result Hint HintKind
with_mark mark (Ok target) = Ok (Marks mark target)
with_mark mark (Err kind) = Err kind

abbrev pub with_amount : ℕ → List ℕ → Result Target HintKind → Result Hint HintKind
with_amount amount name (Ok target) = Ok (Adds amount name target)
with_amount amount name (Err kind) = Err kind

abbrev pub hint_of : Universe → HintText → Result Hint HintKind
hint_of u (Reject target) = with_mark Rejected (target_in u target)
hint_of u (Approve target) = with_mark Approved (one_target_in u target)
hint_of u (Add amount name target) = with_amount amount name (target_in u target)

abbrev pub hint_read : Universe → Result HintText HintKind → Result Hint HintKind
hint_read u (Ok text) = hint_of u text
hint_read u (Err kind) = Err kind

-- ---- lines

-- what is read of a line: nothing, a hint, or a fault
abbrev pub line_read : Universe → Line → Option (Result Hint HintKind)
line_read u line = option_map (hint_read u) (said_by (content line))

abbrev pub hint_at : Universe → Line → Option Hint
hint_at u line = option_and_then result_ok (line_read u line)

abbrev pub fault_at : Universe → Line → Option HintEnd
fault_at u line = option_map (HintFault line.number) (option_and_then result_err (line_read u line))

-- the hints of lines, in order
abbrev pub hints_of : Universe → List Line → List Hint
hints_of u lines = filter_map (hint_at u) lines

-- the first fault of lines
abbrev pub first_fault : Universe → List Line → Option HintEnd
first_fault u [] = None
first_fault u (line ∷ lines) = option_or (fault_at u line) (first_fault u lines)

-- the lines of a text, numbered from 1
abbrev pub lines_of : List ℕ → List Line
lines_of text = lines_from 1 text

-- a fault, or want of memory
abbrev pub IsHintEnd : Option HintEnd → HintEnd → Type 0
IsHintEnd first end = (end ≡ NoMemory) ⊎ (first ≡ Some end)
