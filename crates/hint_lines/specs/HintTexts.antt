-- What a line of a hint file says, as a list of words.
use Rattle.std.specs.Prelude.{ℕ, Bool, true, List, [], ◌∷◌, Option, Some, None, Result, Ok, Err, codes, if◌then◌else◌}
use Rattle.ascii.specs.Bytes.{is_byte}
use Rattle.ascii.specs.Texts.{begins, is_same, words}
use Rattle.cost_vector.specs.Grammar.{is_number, is_name, decimal_value}
use Rattle.universe_model.specs.declared.HintKind.{HintKind}
use Rattle.universe_model.specs.declared.HintKind.TheVariants.{BadHint, BadNumber, BadCostName}
use Rattle.hint_lines.specs.declared.HintLine.{HintLine}
use Rattle.hint_lines.specs.declared.HintLine.TheVariants as line

-- a target is rejected, approved, or has an amount added at a cost name
pub data HintText : Type 0 where
  Reject : (target : List ℕ) → HintText
  Approve : (target : List ℕ) → HintText
  Add : (amount : ℕ) (name target : List ℕ) → HintText

abbrev pub hint_text : HintLine → HintText
hint_text (line.Reject target) = Reject target.now
hint_text (line.Approve target) = Approve target.now
hint_text (line.Add amount name target) = Add amount name.now target.now

-- the same of what is read, which may be a fault
abbrev pub read_text : Result HintLine HintKind → Result HintText HintKind
read_text (Ok read) = Ok (hint_text read)
read_text (Err kind) = Err kind

-- 35 is '#', which begins a remark
abbrev pub is_passed : List (List ℕ) → Bool
is_passed [] = true
is_passed (word ∷ words) = begins (is_byte 35) word

abbrev pub addition : List ℕ → List ℕ → List ℕ → Result HintText HintKind
addition number name target =
    if is_number number then (if is_name name then Ok (Add (decimal_value number) name target) else Err BadCostName) else Err BadNumber

-- a first word with one word behind it
abbrev pub mark : List ℕ → List ℕ → Result HintText HintKind
mark verb target =
    if is_same verb (codes "reject") then Ok (Reject target) else if is_same verb (codes "approve") then Ok (Approve target) else Err BadHint

-- what words say, or their fault
abbrev pub hint_of : List (List ℕ) → Result HintText HintKind
hint_of (verb ∷ target ∷ []) = mark verb target
hint_of (verb ∷ number ∷ name ∷ target ∷ []) = if is_same verb (codes "add") then addition number name target else Err BadHint
hint_of _ = Err BadHint

-- what a line says; a line without words and a remark say nothing
abbrev pub said_by : List ℕ → Option (Result HintText HintKind)
said_by content = if is_passed (words content) then None else Some (hint_of (words content))
