-- The text of a control file (Debian Policy 5.1): its lines, its paragraphs, their fields, and its first fault.
-- Bytes: 9 is a tab, 10 a newline, 13 a carriage return, 32 a space, 35 '#', 45 '-', 58 ':'.
use Rattle.std.specs.Prelude.{ℕ, ◌+◌, ◌-◌, Bool, true, false, not, cond, ◌&&◌, ◌||◌, ◌==◌, nat_le, List, [], ◌∷◌, ◌++◌, map, length, take, drop, slice_index, Option, None, Some}
use Rattle.std.specs.List.{filter, flat_map, list_all, list_any, position_or_len, suffix_len, take_while, before_first, onto_first, slice_split}
use Rattle.std.specs.Str.{str_eq_ignore_ascii_case}
pub use Rattle.ascii.specs.Bytes.{is_space, is_colon}
use Rattle.ascii.specs.Texts.{begins}
use Rattle.control_file.specs.declared.CtlFault.{CtlFault}
use Rattle.control_file.specs.declared.CtlKind.{CtlKind}
use Rattle.control_file.specs.declared.CtlKind.TheVariants.{NoColon, BadName, NoFieldYet, Twice, ManyFields}

-- a line: its number, and its bytes with its line end
pub record Line : Type 0 where
  pub number : ℕ
  pub bytes : List ℕ

-- a text in lines: a line ends behind each newline, and what follows the last newline is a line if it has a byte
abbrev pub cut : List ℕ → List (List ℕ)
cut [] = []
cut (b ∷ bs) = cond (b == 10) ((b ∷ []) ∷ cut bs) (onto_first b (cut bs))

abbrev pub numbered : ℕ → List (List ℕ) → List Line
numbered n [] = []
numbered n (l ∷ ls) = record { number = n; bytes = l } ∷ numbered (n + 1) ls

-- the lines of a text whose first line has the number n
abbrev pub lines_from : ℕ → List ℕ → List Line
lines_from n text = numbered n (cut text)

-- the bytes of lines, one line behind the other
abbrev pub bytes_of : List Line → List ℕ
bytes_of ls = flat_map (λ (l : Line). l.bytes) ls

-- xs without its last byte, if that is b
abbrev pub without_last : ℕ → List ℕ → List ℕ
without_last b xs = cond (slice_index xs (length xs - 1) == b) (take (length xs - 1) xs) xs

-- without the line end: a newline, and one carriage return before it or at the end
abbrev pub without_line_end : List ℕ → List ℕ
without_line_end bytes = without_last 13 (without_last 10 bytes)

-- bytes of a line that is empty, or only spaces and tabs
abbrev pub is_blank : List ℕ → Bool
is_blank bytes = list_all is_space (without_line_end bytes)

abbrev pub is_blank_line : Line → Bool
is_blank_line l = is_blank l.bytes

abbrev pub content : Line → List ℕ
content l = without_line_end l.bytes

abbrev pub begins_with_space : List ℕ → Bool
begins_with_space bytes = begins is_space bytes

-- a line that is not blank continues the field above it if it begins with a space or a tab
abbrev pub continues : Line → Bool
continues l = begins_with_space l.bytes

-- what stands before the first colon of a line
abbrev pub name_of : Line → List ℕ
name_of l = before_first is_colon (content l)

abbrev pub is_name_byte : ℕ → Bool
is_name_byte b = nat_le 33 b && nat_le b 126 && not (is_colon b)

-- a name has a byte and does not begin with '#' or '-'
abbrev pub is_name : List ℕ → Bool
is_name [] = false
is_name (b ∷ bs) = not (b == 35 || b == 45) && list_all is_name_byte (b ∷ bs)

-- the names of the fields that begin on lines of a paragraph
abbrev pub names_of : List Line → List (List ℕ)
names_of ls = map name_of (filter (λ l. not (continues l)) ls)

-- whether a name is among names, without regard to ASCII case
abbrev pub is_among : List ℕ → List (List ℕ) → Bool
is_among name names = list_any (λ other. str_eq_ignore_ascii_case other name) names

abbrev pub is_none_yet : List (List ℕ) → Bool
is_none_yet [] = true
is_none_yet (n ∷ ns) = false

-- the fault of a line that begins a field, behind fields of these names
abbrev pub fault_of_field : List (List ℕ) → List ℕ → Option CtlKind
fault_of_field names line =
    let name = before_first is_colon line in
    cond (not (list_any is_colon line)) (Some NoColon)
    (cond (not (is_name name)) (Some BadName)
    (cond (is_among name names) (Some Twice)
    (cond (nat_le 1024 (length names)) (Some ManyFields) None)))

-- the fault of a line that is not blank, behind fields of these names
abbrev pub fault_of_line : List (List ℕ) → List ℕ → Option CtlKind
fault_of_line names bytes =
    cond (begins_with_space bytes) (cond (is_none_yet names) (Some NoFieldYet) None) (fault_of_field names (without_line_end bytes))

-- the fault of a line behind the other lines of its paragraph
abbrev pub fault_of : List Line → Line → Option CtlKind
fault_of before l = fault_of_line (names_of before) l.bytes

-- a fault at a line, or else a later one
abbrev pub at_line_or : Option CtlKind → ℕ → Option CtlFault → Option CtlFault
at_line_or None n later = later
at_line_or (Some kind) n later = Some (record { line = n; kind = kind })

-- the first fault of lines that stand behind the lines before of their paragraph
abbrev pub fault_behind : List Line → List Line → Option CtlFault
fault_behind before [] = None
fault_behind before (l ∷ ls) = at_line_or (fault_of before l) l.number (fault_behind (before ++ l ∷ []) ls)

-- the first fault of a paragraph
abbrev pub first_fault : List Line → Option CtlFault
first_fault ls = fault_behind [] ls

-- a field as its name, its value and the line of its name
pub record FieldText : Type 0 where
  pub name : List ℕ
  pub value : List ℕ
  pub line : ℕ

-- without the spaces and tabs at the front, and at the end
abbrev pub trimmed_front : List ℕ → List ℕ
trimmed_front bytes = drop (position_or_len (λ b. not (is_space b)) bytes) bytes

abbrev pub trimmed_end : List ℕ → List ℕ
trimmed_end bytes = take (length bytes - suffix_len is_space bytes) bytes

abbrev pub trimmed : List ℕ → List ℕ
trimmed bytes = trimmed_end (trimmed_front bytes)

-- a field's value: of its lines, without the last line end, what stands behind the colon
abbrev pub value_of : Line → List Line → List ℕ
value_of l more = trimmed (drop (length (name_of l) + 1) (without_line_end (l.bytes ++ bytes_of more)))

-- a field: the line of its name, and the lines that continue it
abbrev pub field_of : Line → List Line → FieldText
field_of l more = record {
  name = name_of l;
  value = value_of l more;
  line = l.number;
}

-- the fields of a paragraph: one for each line that does not continue another, with the lines behind it that do
abbrev pub fields_of : List Line → List FieldText
fields_of [] = []
fields_of (l ∷ ls) = cond (continues l) (fields_of ls) (field_of l (take_while continues ls) ∷ fields_of ls)

-- the paragraphs of lines: the parts between blank lines that have a line
abbrev pub has_line : List Line → Bool
has_line [] = false
has_line (l ∷ ls) = true

abbrev pub paragraphs_of : List Line → List (List Line)
paragraphs_of ls = filter has_line (slice_split is_blank_line ls)

-- a paragraph as the line of its first field, its fields and its text
pub record ParagraphText : Type 0 where
  pub line : ℕ
  pub fields : List FieldText
  pub text : List ℕ

abbrev pub first_number : List Line → ℕ
first_number [] = 0
first_number (l ∷ ls) = l.number

abbrev pub paragraph_of : List Line → ParagraphText
paragraph_of ls = record { line = first_number ls; fields = fields_of ls; text = bytes_of ls }

-- what is read of a text: the paragraphs up to the first faulty one, and its fault
pub record Reading : Type 0 where
  pub paragraphs : List ParagraphText
  pub fault : Option CtlFault

-- a paragraph and what is read behind it, or its fault
abbrev pub read_first : Option CtlFault → ParagraphText → Reading → Reading
read_first None p later = record { paragraphs = p ∷ later.paragraphs; fault = later.fault }
read_first (Some fault) p later = record { paragraphs = []; fault = Some fault }

abbrev pub read_paragraphs : List (List Line) → Reading
read_paragraphs [] = record { paragraphs = []; fault = None }
read_paragraphs (p ∷ ps) = read_first (first_fault p) (paragraph_of p) (read_paragraphs ps)

-- what is left of a text, and the number of its first line
pub record Rest : Type 0 where
  pub text : List ℕ
  pub line : ℕ

abbrev pub reading_of : Rest → Reading
reading_of rest = read_paragraphs (paragraphs_of (lines_from rest.line rest.text))

-- a whole text, whose lines are numbered from 1
abbrev pub whole : List ℕ → Rest
whole text = record { text = text; line = 1 }

-- what is read of a whole text
abbrev pub reading : List ℕ → Reading
reading text = reading_of (whole text)

-- the first field of a name, without regard to ASCII case
abbrev pub field_named : List ℕ → List FieldText → Option FieldText
field_named name [] = None
field_named name (f ∷ fs) = cond (str_eq_ignore_ascii_case f.name name) (Some f) (field_named name fs)
