-- What the passes over lines tell one another: how far they came, and what they passed.
use Rattle.std.specs.Prelude.{◌≡◌, ℕ, ◌+◌, ◌<◌, ◌^◌, ◌==◌, ◌&&◌, ◌||◌, nat_le, Bool, false, not, cond, List, [], ◌∷◌, ◌++◌, length, Option, None, Some, IsTrue}
use Rattle.std.specs.List.{list_all, list_any, before_first}
use Rattle.control_file.specs.declared.CtlFault.{CtlFault}
use Rattle.control_file.specs.declared.CtlKind.{CtlKind}
use Rattle.control_file.specs.declared.CtlKind.TheVariants.{NoColon, BadName, Twice, ManyFields}
use Rattle.control_file.specs.Text.{FieldText, Reading, Rest, is_blank, is_colon, is_name_byte, is_name, is_among, begins_with_space, without_line_end, cut, numbered, lines_from, names_of, fault_of_line, first_fault, fields_of}
use Rattle.control_file.specs.Answers.{is_paragraph_next}

abbrev pub at_line : List ℕ → ℕ → Rest
at_line text line = record { text = text; line = line }

-- nothing is read but a fault
abbrev pub faulty : CtlFault → Reading
faulty fault = record { paragraphs = []; fault = Some fault }

-- the name of the field that begins on a line, if one does
abbrev pub own_names : List ℕ → List (List ℕ)
own_names bytes = cond (begins_with_space bytes) [] (before_first is_colon (without_line_end bytes) ∷ [])

-- the bytes that may begin a name
abbrev pub may_begin : ℕ → Bool
may_begin b = is_name_byte b && not (b == 35 || b == 45)

-- why there is no name before the first colon of a line that begins a field
abbrev pub fault_before_colon : List ℕ → Option CtlKind
fault_before_colon line = cond (not (list_any is_colon line)) (Some NoColon) (cond (not (is_name (before_first is_colon line))) (Some BadName) None)

-- why a paragraph with fields of these names gets no field of one more
abbrev pub fault_of_name : List (List ℕ) → List ℕ → Option CtlKind
fault_of_name names name = cond (is_among name names) (Some Twice) (cond (nat_le 1024 (length names)) (Some ManyFields) None)

-- The lines at the front of old were passed. front is their bytes, and rest is what is left; n and m are the numbers of their first lines.
pub record Passed (n : ℕ) (old : List ℕ) (m : ℕ) (rest : List ℕ) (lines : List (List ℕ)) : Type 0 where
  pub front : List ℕ
  pub text : old ≡ front ++ rest
  pub front_lines : cut front ≡ lines
  pub text_lines : cut old ≡ lines ++ cut rest
  pub number : m ≡ n + length lines
  pub ends_line : 0 < length rest → (more : List ℕ) → cut (front ++ more) ≡ lines ++ cut more
  pub bound : m + length rest < 2 ^ 64

-- the first line of a text, and what stands behind it
pub record IsFirstLine (old first after : List ℕ) : Type 0 where
  pub text : old ≡ first ++ after
  pub some : 0 < length first
  pub lines : cut old ≡ first ∷ cut after
  pub alone : cut first ≡ first ∷ []
  pub ends_line : 0 < length after → (more : List ℕ) → cut (first ++ more) ≡ first ∷ cut more

-- blank lines were passed, and no more stand at the front
pub record SkipsBlank (n : ℕ) (old : List ℕ) (m : ℕ) (rest : List ℕ) : Type 0 where
  pub lines : List (List ℕ)
  pub passed : Passed n old m rest lines
  pub blank : IsTrue (list_all is_blank lines)
  pub stops : 0 < length rest → IsTrue (is_paragraph_next (cut rest))

-- the lines of a paragraph without fault were passed, whose fields have these names
pub record Scans (n : ℕ) (old : List ℕ) (m : ℕ) (rest : List ℕ) (named : List (List ℕ)) : Type 0 where
  pub lines : List (List ℕ)
  pub passed : Passed n old m rest lines
  pub some : 0 < length lines
  pub full : IsTrue (list_all (λ l. not (is_blank l)) lines)
  pub names : named ≡ names_of (numbered n lines)
  pub named_some : 0 < length named
  pub faultless : first_fault (numbered n lines) ≡ None
  pub stops : is_paragraph_next (cut rest) ≡ false

-- the lines at the front that begin with a space or a tab were passed
pub record SkipsContinued (n : ℕ) (old : List ℕ) (m : ℕ) (rest : List ℕ) : Type 0 where
  pub lines : List (List ℕ)
  pub passed : Passed n old m rest lines
  pub continued : IsTrue (list_all begins_with_space lines)
  pub stops : begins_with_space rest ≡ false

-- the lines at the front that continue a field of their paragraph were passed
pub record SkipsIndented (n : ℕ) (old : List ℕ) (m : ℕ) (rest : List ℕ) : Type 0 where
  pub lines : List (List ℕ)
  pub passed : Passed n old m rest lines
  pub full : IsTrue (list_all (λ l. not (is_blank l)) lines)
  pub continued : IsTrue (list_all begins_with_space lines)
  pub stops : IsTrue (is_paragraph_next (cut rest)) → begins_with_space rest ≡ false

-- a field of a name begins on a line, behind fields of other names
pub record BeginsField (old : List (List ℕ)) (line name : List ℕ) (new : List (List ℕ)) : Type 0 where
  pub faultless : fault_of_line old line ≡ None
  pub begins : begins_with_space line ≡ false
  pub named : name ≡ before_first is_colon (without_line_end line)
  pub names : new ≡ old ++ name ∷ []

-- the first field was taken
pub record TakesField (n : ℕ) (old : List ℕ) (field : FieldText) (m : ℕ) (rest : List ℕ) : Type 0 where
  pub fields : fields_of (lines_from n old) ≡ field ∷ fields_of (lines_from m rest)
  pub shorter : length rest < length old
  pub bound : m + length rest < 2 ^ 64
  pub begins : begins_with_space rest ≡ false
