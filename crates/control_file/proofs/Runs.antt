-- Runs of lines: paragraphs between blank lines, and fields with the lines that continue them.
use Rattle.std.proofs.Common.{◌≡◌, ℕ, suc, ◌+◌, ◌<◌, Bool, true, false, not, cond, List, [], ◌∷◌, ◌++◌, map, length, refl, ap, sym, ◌∙◌, arith, append_assoc, Some, None}
use Rattle.std.specs.List.{filter, list_all, onto_first, slice_split, take_while}
use Rattle.std.proofs.lemmas.Bool.{and_parts, and_from, not-true, not-false}
use Rattle.std.proofs.lemmas.List.{append-nil}
use Rattle.std.proofs.lemmas.List.Splits.{slice_split-cons_no}
use Rattle.control_file.specs.declared.CtlKind.{CtlKind}
use Rattle.control_file.specs.Text.{Line, numbered, is_blank, is_blank_line, has_line, continues, name_of, names_of, fault_of_line, at_line_or, fault_behind, first_fault, fields_of, field_of, paragraphs_of}
use Rattle.control_file.specs.Answers.{is_paragraph_next}
use Rattle.control_file.specs.Passes.{own_names}
use Rattle.control_file.proofs.Cuts.{numbered-append}

-- the line at the end of numbered lines
abbrev pub line_behind : ℕ → List (List ℕ) → List ℕ → Line
line_behind n lines bytes = record { number = n + length lines; bytes = bytes }

pub numbered_push : (n : ℕ) (lines : List (List ℕ)) (bytes : List ℕ) → numbered n (lines ++ bytes ∷ []) ≡ numbered n lines ++ line_behind n lines bytes ∷ []
numbered_push n lines bytes = numbered-append n lines (bytes ∷ [])

-- blank lines at the front are in no paragraph
pub paragraphs_of-blank : (n : ℕ) (lines : List (List ℕ)) (ls : List Line) → list_all is_blank lines ≡ true → paragraphs_of (numbered n lines ++ ls) ≡ paragraphs_of ls
paragraphs_of-blank n [] ls h = refl
paragraphs_of-blank n (l ∷ lines) ls h =
    let both = and_parts (is_blank l) (list_all is_blank lines) h in
    let yes : is_blank l ≡ true = both.0 in
    rw yes (paragraphs_of-blank (n + 1) lines ls both.1)

-- a list in parts has a first part
split_cons : {X : Type 0} (p : X → Bool) (ys : List X) → (more : List X) × (later : List (List X)) × (slice_split p ys ≡ more ∷ later)
split_cons p [] = ([], [], refl)
split_cons p (y ∷ ys) =
    let r = split_cons p ys in
    elim (p y) as (λ b. (more : List _) × (later : List (List _)) × (cond b ([] ∷ slice_split p ys) (onto_first y (slice_split p ys)) ≡ more ∷ later)) [
      | true ↦ ([], slice_split p ys, refl)
      | false ↦ (y ∷ r.0, r.1, ap (onto_first y) r.2)
    ]

-- elements that do not pass, at the front, are in the first part
pub split_front : {X : Type 0} (p : X → Bool) (xs ys : List X) → list_all (λ x. not (p x)) xs ≡ true → (more : List X) × (later : List (List X)) × (slice_split p ys ≡ more ∷ later) × (slice_split p (xs ++ ys) ≡ (xs ++ more) ∷ later)
split_front p [] ys h = let r = split_cons p ys in (r.0, r.1, r.2, r.2)
split_front p (x ∷ xs) ys h =
    let both = and_parts (not (p x)) (list_all (λ x. not (p x)) xs) h in
    let no : p x ≡ false = not-true (p x) both.0 in
    let r = split_front p xs ys both.1 in
    (r.0, r.1, r.2, slice_split-cons_no p x (xs ++ ys) no ∙ ap (onto_first x) r.3)

pub full_numbered : (n : ℕ) (lines : List (List ℕ)) → list_all (λ l. not (is_blank l)) lines ≡ true → list_all (λ l. not (is_blank_line l)) (numbered n lines) ≡ true
full_numbered n [] h = refl
full_numbered n (l ∷ lines) h =
    let both = and_parts (not (is_blank l)) (list_all (λ l. not (is_blank l)) lines) h in
    and_from (not (is_blank l)) _ both.0 (full_numbered (n + 1) lines both.1)

-- no paragraph goes on where the text ends or a blank line comes
stopped : (m : ℕ) (cs : List (List ℕ)) (more : List Line) (later : List (List Line)) → is_paragraph_next cs ≡ false → slice_split is_blank_line (numbered m cs) ≡ more ∷ later → (more ≡ []) × (filter has_line later ≡ paragraphs_of (numbered m cs))
stopped m [] more later h e =
    let none : more ≡ [] = cc in
    let end : later ≡ [] = cc in
    (none, ap (filter has_line) end)
stopped m (c ∷ cs) more later h e =
    let yes : is_blank c ≡ true = not-false (is_blank c) h in
    let whole : slice_split is_blank_line (numbered m (c ∷ cs)) ≡ [] ∷ slice_split is_blank_line (numbered (m + 1) cs) = rw yes refl in
    let both : more ∷ later ≡ [] ∷ slice_split is_blank_line (numbered (m + 1) cs) = sym e ∙ whole in
    let none : more ≡ [] = cc in
    let end : later ≡ slice_split is_blank_line (numbered (m + 1) cs) = cc in
    (none, ap (filter has_line) end ∙ sym (ap (filter has_line) whole))

-- lines that are not blank, up to the end or a blank line, are a paragraph
pub paragraphs_of-full : (n : ℕ) (lines : List (List ℕ)) (m : ℕ) (cs : List (List ℕ)) → 0 < length lines → list_all (λ l. not (is_blank l)) lines ≡ true → is_paragraph_next cs ≡ false → paragraphs_of (numbered n lines ++ numbered m cs) ≡ numbered n lines ∷ paragraphs_of (numbered m cs)
paragraphs_of-full n [] m cs some full stops = absurd (omega arith)
paragraphs_of-full n (l ∷ lines) m cs some full stops =
    let r = split_front is_blank_line (numbered n (l ∷ lines)) (numbered m cs) (full_numbered n (l ∷ lines) full) in
    let end = stopped m cs r.0 r.1 stops r.2 in
    let whole : numbered n (l ∷ lines) ++ r.0 ≡ numbered n (l ∷ lines) = ap (λ more. numbered n (l ∷ lines) ++ more) end.0 ∙ append-nil (numbered n (l ∷ lines)) in
    ap (filter has_line) r.3 ∙ ap (λ p. p ∷ filter has_line r.1) whole ∙ ap (λ ps. numbered n (l ∷ lines) ∷ ps) end.1

-- lines that are not blank stand at the front of a paragraph
pub paragraphs_of-front : (n : ℕ) (lines : List (List ℕ)) (ls : List Line) → 0 < length lines → list_all (λ l. not (is_blank l)) lines ≡ true → (more : List Line) × (later : List (List Line)) × (paragraphs_of (numbered n lines ++ ls) ≡ (numbered n lines ++ more) ∷ later)
paragraphs_of-front n [] ls some full = absurd (omega arith)
paragraphs_of-front n (l ∷ lines) ls some full =
    let r = split_front is_blank_line (numbered n (l ∷ lines)) ls (full_numbered n (l ∷ lines) full) in
    (r.0, filter has_line r.1, ap (filter has_line) r.3)

-- lines without fault, whatever follows them in their paragraph
abbrev pub Faultless : ℕ → List (List ℕ) → Type 0
Faultless n lines = (ls : List Line) → first_fault (numbered n lines ++ ls) ≡ fault_behind (numbered n lines) ls

pub faultless_more : (n : ℕ) (lines : List (List ℕ)) (first : List ℕ) → Faultless n lines → fault_of_line (names_of (numbered n lines)) first ≡ None → Faultless n (lines ++ first ∷ [])
faultless_more n lines first f none ls =
    let before = numbered n lines in
    let l = line_behind n lines first in
    let push = numbered_push n lines first in
    let step : fault_behind before (l ∷ ls) ≡ fault_behind (before ++ l ∷ []) ls = ap (λ k. at_line_or k (n + length lines) (fault_behind (before ++ l ∷ []) ls)) none in
    ap (λ (xs : List Line). first_fault (xs ++ ls)) push ∙ ap first_fault (append_assoc before (l ∷ []) ls) ∙ f (l ∷ ls) ∙ step ∙ ap (λ (xs : List Line). fault_behind xs ls) (sym push)

pub faultless_end : (n : ℕ) (lines : List (List ℕ)) → Faultless n lines → first_fault (numbered n lines) ≡ None
faultless_end n lines f = ap first_fault (sym (append-nil (numbered n lines))) ∙ f []

pub fault_next : (n : ℕ) (lines : List (List ℕ)) (first : List ℕ) (kind : CtlKind) (more : List Line) → Faultless n lines → fault_of_line (names_of (numbered n lines)) first ≡ Some kind → first_fault (numbered n (lines ++ first ∷ []) ++ more) ≡ Some (record { line = n + length lines; kind = kind })
fault_next n lines first kind more f is =
    let before = numbered n lines in
    let l = line_behind n lines first in
    ap (λ (xs : List Line). first_fault (xs ++ more)) (numbered_push n lines first) ∙ ap first_fault (append_assoc before (l ∷ []) more) ∙ f (l ∷ more) ∙ ap (λ k. at_line_or k (n + length lines) (fault_behind (before ++ l ∷ []) more)) is

names_of-append : (xs ys : List Line) → names_of (xs ++ ys) ≡ names_of xs ++ names_of ys
names_of-append [] ys = refl
names_of-append (x ∷ xs) ys =
    elim (continues x) as (λ b. map name_of (cond (not b) (x ∷ filter (λ l. not (continues l)) (xs ++ ys)) (filter (λ l. not (continues l)) (xs ++ ys))) ≡ map name_of (cond (not b) (x ∷ filter (λ l. not (continues l)) xs) (filter (λ l. not (continues l)) xs)) ++ names_of ys) [
      | true ↦ names_of-append xs ys
      | false ↦ ap (λ r. name_of x ∷ r) (names_of-append xs ys)
    ]

names_of_one : (l : Line) → names_of (l ∷ []) ≡ own_names l.bytes
names_of_one l =
    elim (continues l) as (λ b. map name_of (cond (not b) (l ∷ []) []) ≡ cond b [] (name_of l ∷ [])) [ true ↦ refl | false ↦ refl ]

pub names_of_push : (n : ℕ) (lines : List (List ℕ)) (first : List ℕ) → names_of (numbered n (lines ++ first ∷ [])) ≡ names_of (numbered n lines) ++ own_names first
names_of_push n lines first =
    let l = line_behind n lines first in
    ap names_of (numbered_push n lines first) ∙ names_of-append (numbered n lines) (l ∷ []) ∙ ap (λ r. names_of (numbered n lines) ++ r) (names_of_one l)

-- a paragraph has as many fields as names
pub length-fields_of : (ls : List Line) → length (fields_of ls) ≡ length (names_of ls)
length-fields_of [] = refl
length-fields_of (l ∷ ls) =
    elim (continues l) as (λ b. length (cond b (fields_of ls) (field_of l (take_while continues ls) ∷ fields_of ls)) ≡ length (map name_of (cond (not b) (l ∷ filter (λ l. not (continues l)) ls) (filter (λ l. not (continues l)) ls)))) [
      | true ↦ length-fields_of ls
      | false ↦ ap suc (length-fields_of ls)
    ]
