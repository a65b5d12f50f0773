-- Lines of an input. A newline (10) ends a line, and one carriage return (13) before it is dropped.
-- A last line without a newline is a line if it has a byte; a carriage return at the very end belongs to it.
use Rattle.std.specs.Prelude.{◌≡◌, ℕ, ◌<◌, ◌≤◌, Bool, true, false, ◌&&◌, ◌==◌, List, [], ◌∷◌, ◌++◌, length, Option, Result, Ok, Err, Some, None, if◌then◌else◌}
use Rattle.std.specs.Option.{IsSomeAnd}
use Rattle.apt_base.specs.declared.lines.LineEnd.{LineEnd}
use Rattle.apt_base.specs.declared.lines.LineEnd.TheVariants as line_end

-- the list with one more item at the front of its first list
abbrev pub with_front : ℕ → List (List ℕ) → List (List ℕ)
with_front byte [] = (byte ∷ []) ∷ []
with_front byte (line ∷ lines) = (byte ∷ line) ∷ lines

abbrev pub begins_with : List ℕ → ℕ → Bool
begins_with [] byte = false
begins_with (first ∷ bytes) byte = first == byte

-- all lines of an input
abbrev pub lines_of : List ℕ → List (List ℕ)
lines_of [] = []
lines_of (byte ∷ bytes) =
    if byte == 10 then [] ∷ lines_of bytes
    else if byte == 13 && begins_with bytes 10 then lines_of bytes
    else with_front byte (lines_of bytes)

-- the bytes before the first newline or the end
abbrev pub before_newline : List ℕ → List ℕ
before_newline [] = []
before_newline (byte ∷ bytes) = if byte == 10 then [] else byte ∷ before_newline bytes

-- the bytes behind the first newline; none where there is no newline
abbrev pub behind_newline : List ℕ → List ℕ
behind_newline [] = []
behind_newline (byte ∷ bytes) = if byte == 10 then bytes else behind_newline bytes

-- the most bytes that may stand before a newline or the end
abbrev pub most_line_bytes : ℕ
most_line_bytes = 4096

-- One call of `next_line` on an input that is told: whether there is a next line, which line it is, and what is left.
abbrev pub ReadsLine : List ℕ → Result Bool LineEnd → List ℕ → List ℕ → Type 0
ReadsLine input (Ok true) line rest = (lines_of input ≡ line ∷ lines_of rest) × (rest ≡ behind_newline input) × (length (before_newline input) ≤ most_line_bytes)
ReadsLine input (Ok false) line rest = (input ≡ []) × (line ≡ []) × (rest ≡ [])
ReadsLine input (Err line_end.ReadFault) line rest = Unit {0}
ReadsLine input (Err line_end.TooLong) line rest = most_line_bytes < length (before_newline input)
ReadsLine input (Err line_end.NoMemory) line rest = Unit {0}

-- The same on an input that may be told: whether it is told doesn't change.
abbrev pub InputReadsLine : Option (List ℕ) → Result Bool LineEnd → List ℕ → Option (List ℕ) → Type 0
InputReadsLine None result line rest = rest ≡ None
InputReadsLine (Some input) result line rest = IsSomeAnd rest (ReadsLine input result line)

-- the line without one carriage return at its end
abbrev pub without_return : List ℕ → List ℕ
without_return [] = []
without_return (byte ∷ []) = if byte == 13 then [] else byte ∷ []
without_return (byte ∷ next ∷ bytes) = byte ∷ without_return (next ∷ bytes)

-- no byte of these is a newline
abbrev pub HasNoNewline : List ℕ → Type 0
HasNoNewline [] = Unit {0}
HasNoNewline (byte ∷ bytes) = (byte == 10 ≡ false) × HasNoNewline bytes

-- The bytes before the first newline go from what is held to the end of a line, and the newline is dropped;
-- where there is none, all go.
abbrev pub TakesPart : Bool → List ℕ → List ℕ → List ℕ → List ℕ → Type 0
TakesPart true held rest line longer = (part : List ℕ) × HasNoNewline part × (held ≡ part ++ 10 ∷ rest) × (longer ≡ line ++ part)
TakesPart false held rest line longer = HasNoNewline held × (rest ≡ []) × (longer ≡ line ++ held)
