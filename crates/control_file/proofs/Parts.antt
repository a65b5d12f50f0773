-- What stands in a text, as a part of it.
use Rattle.std.proofs.Common.{◌≡◌, ℕ, ◌+◌, ◌-◌, true, false, not, cond, List, [], ◌∷◌, ◌++◌, length, take, drop, refl, ap, sym, ◌∙◌, subst, arith, append_assoc, length-append, Some, None, eqb, get_or}
use Rattle.std.specs.List.{filter, position_or_len, prefix_len, suffix_len, onto_first, slice_split}
use Rattle.std.proofs.lemmas.List.{append-nil, take-append-drop, take_at, drop_at}
use Rattle.control_file.specs.Text.{Line, FieldText, bytes_of, lines_from, without_last, without_line_end, is_space, is_colon, is_blank_line, has_line, continues, name_of, value_of, field_of, fields_of, trimmed_front, trimmed, first_fault, paragraph_of, read_first, read_paragraphs, paragraphs_of, reading}
use Rattle.control_file.specs.Laws.{IsPart, FieldsStandIn, ParagraphsStandIn}
use Rattle.control_file.proofs.Cuts.{bytes_of-lines}

-- a part with what stands before and after it
pub record Stands (whole part : List ℕ) : Type 0 where
  pub before : List ℕ
  pub after : List ℕ
  pub is : whole ≡ before ++ (part ++ after)

pub part_of : (whole part : List ℕ) → Stands whole part → IsPart whole part
part_of whole part s =
    let from = length s.before in
    let rest : drop from whole ≡ part ++ s.after = ap (drop from) s.is ∙ drop_at s.before (part ++ s.after) from refl in
    let long : (from + length part) - from ≡ length part = omega arith in
    record {
      from = from;
      to = from + length part;
      order = omega arith;
      within = omega (arith, ap length s.is, length-append s.before (part ++ s.after), length-append part s.after);
      bytes = sym (ap (λ n. take n (drop from whole)) long ∙ ap (take (length part)) rest ∙ take_at part s.after (length part) refl);
    }

stands_whole : (xs : List ℕ) → Stands xs xs
stands_whole xs = record { before = []; after = []; is = sym (append-nil xs) }

stands_take : (n : ℕ) (xs : List ℕ) → Stands xs (take n xs)
stands_take n xs = record { before = []; after = drop n xs; is = sym (take-append-drop n xs) }

stands_drop : (n : ℕ) (xs : List ℕ) → Stands xs (drop n xs)
stands_drop n xs = record { before = take n xs; after = []; is = sym (ap (λ r. take n xs ++ r) (append-nil (drop n xs)) ∙ take-append-drop n xs) }

regroup : (x u c v y : List ℕ) → x ++ ((u ++ (c ++ v)) ++ y) ≡ (x ++ u) ++ (c ++ (v ++ y))
regroup x u c v y = simp append_assoc

stands_in : (a b c : List ℕ) → Stands a b → Stands b c → Stands a c
stands_in a b c s t = record {
  before = s.before ++ t.before;
  after = t.after ++ s.after;
  is = s.is ∙ ap (λ r. s.before ++ (r ++ s.after)) t.is ∙ regroup s.before t.before c t.after s.after;
}

stands_left : (xs ys : List ℕ) → Stands (xs ++ ys) xs
stands_left xs ys = record { before = []; after = ys; is = refl }

stands_right : (xs ys : List ℕ) → Stands (xs ++ ys) ys
stands_right xs ys = record { before = xs; after = []; is = ap (λ r. xs ++ r) (sym (append-nil ys)) }

stands_without_last : (b : ℕ) (xs : List ℕ) → Stands xs (without_last b xs)
stands_without_last b xs =
    elim (eqb (get_or xs (length xs - 1) 0) b) as (λ t. Stands xs (cond t (take (length xs - 1) xs) xs)) [
      | true ↦ stands_take (length xs - 1) xs
      | false ↦ stands_whole xs
    ]

stands_line_end : (xs : List ℕ) → Stands xs (without_line_end xs)
stands_line_end xs = stands_in xs (without_last 10 xs) (without_line_end xs) (stands_without_last 10 xs) (stands_without_last 13 (without_last 10 xs))

stands_trimmed : (xs : List ℕ) → Stands xs (trimmed xs)
stands_trimmed xs = stands_in xs (trimmed_front xs) (trimmed xs) (stands_drop (position_or_len (λ b. not (is_space b)) xs) xs) (stands_take (length (trimmed_front xs) - suffix_len is_space (trimmed_front xs)) (trimmed_front xs))

-- the name and the value of a field stand in its lines
stands_name : (l : Line) (more : List Line) → Stands (l.bytes ++ bytes_of more) (name_of l)
stands_name l more =
    let line = without_line_end l.bytes in
    stands_in (l.bytes ++ bytes_of more) l.bytes (name_of l) (stands_left l.bytes (bytes_of more)) (stands_in l.bytes line (name_of l) (stands_line_end l.bytes) (stands_take (position_or_len is_colon line) line))

stands_value : (l : Line) (more : List Line) → Stands (l.bytes ++ bytes_of more) (value_of l more)
stands_value l more =
    let body = l.bytes ++ bytes_of more in
    let line = without_line_end body in
    let behind = drop (length (name_of l) + 1) line in
    stands_in body line (value_of l more) (stands_line_end body) (stands_in line behind (value_of l more) (stands_drop (length (name_of l) + 1) line) (stands_trimmed behind))

bytes_of-append : (xs ys : List Line) → bytes_of (xs ++ ys) ≡ bytes_of xs ++ bytes_of ys
bytes_of-append [] ys = refl
bytes_of-append (x ∷ xs) ys = ap (λ r. x.bytes ++ r) (bytes_of-append xs ys) ∙ sym (append_assoc x.bytes (bytes_of xs) (bytes_of ys))

stands_lines : (n : ℕ) (ls : List Line) → Stands (bytes_of ls) (bytes_of (take n ls))
stands_lines n ls = record { before = []; after = bytes_of (drop n ls); is = sym (ap bytes_of (take-append-drop n ls)) ∙ bytes_of-append (take n ls) (drop n ls) }

-- fields that stand in a part stand in the whole
abbrev Fields : List ℕ → List FieldText → Type 0
Fields text [] = Unit {0}
Fields text (f ∷ fs) = Stands text f.name × Stands text f.value × Fields text fs

lifted : (whole part : List ℕ) (fs : List FieldText) → Stands whole part → Fields part fs → Fields whole fs
lifted whole part [] s h = tt
lifted whole part (f ∷ fs) s h = (stands_in whole part f.name s h.0, stands_in whole part f.value s h.1, lifted whole part fs s h.2)

fields_stand : (ls : List Line) → Fields (bytes_of ls) (fields_of ls)
fields_stand [] = tt
fields_stand (l ∷ ls) =
    let later = lifted (l.bytes ++ bytes_of ls) (bytes_of ls) (fields_of ls) (stands_right l.bytes (bytes_of ls)) (fields_stand ls) in
    let n = prefix_len continues ls in
    let more = take n ls in
    let body : Stands (l.bytes ++ bytes_of ls) (l.bytes ++ bytes_of more) = front l.bytes (bytes_of ls) (bytes_of more) (bytes_of (drop n ls)) (sym (ap bytes_of (take-append-drop n ls)) ∙ bytes_of-append more (drop n ls)) in
    elim (continues l) as (λ b. Fields (l.bytes ++ bytes_of ls) (cond b (fields_of ls) (field_of l more ∷ fields_of ls))) [
      | true ↦ later
      | false ↦ (stands_in _ _ _ body (stands_name l more), stands_in _ _ _ body (stands_value l more), later)
    ]
  where
    front : (x whole part after : List ℕ) → whole ≡ part ++ after → Stands (x ++ whole) (x ++ part)
    front x whole part after e = record { before = []; after = after; is = ap (λ r. x ++ r) e ∙ sym (append_assoc x part after) }

fields_are_parts : (text : List ℕ) (fs : List FieldText) → Fields text fs → FieldsStandIn text fs
fields_are_parts text [] h = tt
fields_are_parts text (f ∷ fs) h = (part_of text f.name h.0, part_of text f.value h.1, fields_are_parts text fs h.2)

-- runs of lines that stand in a text
abbrev Runs : List ℕ → List (List Line) → Type 0
Runs text [] = Unit {0}
Runs text (p ∷ ps) = Stands text (bytes_of p) × Runs text ps

runs_lifted : (whole part : List ℕ) (ps : List (List Line)) → Stands whole part → Runs part ps → Runs whole ps
runs_lifted whole part [] s h = tt
runs_lifted whole part (p ∷ ps) s h = (stands_in whole part (bytes_of p) s h.0, runs_lifted whole part ps s h.1)

runs_filtered : (text : List ℕ) (ps : List (List Line)) → Runs text ps → Runs text (filter has_line ps)
runs_filtered text [] h = tt
runs_filtered text (p ∷ ps) h =
    elim (has_line p) as (λ b. Runs text (cond b (p ∷ filter has_line ps) (filter has_line ps))) [
      | true ↦ (h.0, runs_filtered text ps h.1)
      | false ↦ runs_filtered text ps h.1
    ]

-- lines in parts: the first part stands at the front
record Split (ls : List Line) (parts : List (List Line)) : Type 0 where
  first : List Line
  later : List (List Line)
  after : List ℕ
  are : parts ≡ first ∷ later
  front : bytes_of ls ≡ bytes_of first ++ after
  runs : Runs (bytes_of ls) later

split_stands : (ls : List Line) → Split ls (slice_split is_blank_line ls)
split_stands [] = record { first = []; later = []; after = []; are = refl; front = refl; runs = tt }
split_stands (l ∷ ls) =
    let s = split_stands ls in
    let whole = l.bytes ++ bytes_of ls in
    let below = stands_right l.bytes (bytes_of ls) in
    elim (is_blank_line l) as (λ b. Split (l ∷ ls) (cond b ([] ∷ slice_split is_blank_line ls) (onto_first l (slice_split is_blank_line ls)))) [
      | true ↦ record {
        first = [];
        later = s.first ∷ s.later;
        after = whole;
        are = ap (λ ps. [] ∷ ps) s.are;
        front = refl;
        runs = (stands_in whole (bytes_of ls) (bytes_of s.first) below (record { before = []; after = s.after; is = s.front }), runs_lifted whole (bytes_of ls) s.later below s.runs);
      }
      | false ↦ record {
        first = l ∷ s.first;
        later = s.later;
        after = s.after;
        are = ap (onto_first l) s.are;
        front = ap (λ r. l.bytes ++ r) s.front ∙ sym (append_assoc l.bytes (bytes_of s.first) s.after);
        runs = runs_lifted whole (bytes_of ls) s.later below s.runs;
      }
    ]

paragraphs_stand : (ls : List Line) → Runs (bytes_of ls) (paragraphs_of ls)
paragraphs_stand ls =
    let s = split_stands ls in
    let first : Stands (bytes_of ls) (bytes_of s.first) = record { before = []; after = s.after; is = s.front } in
    let P : List (List Line) → Type 0 = λ ps. Runs (bytes_of ls) ps in
    runs_filtered (bytes_of ls) (slice_split is_blank_line ls) (subst P (sym s.are) (first, s.runs))

read_stand : (text : List ℕ) (ps : List (List Line)) → Runs text ps → ParagraphsStandIn text (read_paragraphs ps).paragraphs
read_stand text [] h = tt
read_stand text (p ∷ ps) h =
    elim (first_fault p) as (λ fault. ParagraphsStandIn text (read_first fault (paragraph_of p) (read_paragraphs ps)).paragraphs) [
      | Some fault ↦ tt
      | None ↦ (part_of text (bytes_of p) h.0, fields_are_parts (bytes_of p) (fields_of p) (fields_stand p), read_stand text ps h.1)
    ]

pub reading_stands : (text : List ℕ) → ParagraphsStandIn text (reading text).paragraphs
reading_stands text =
    let P : List ℕ → Type 0 = λ t. ParagraphsStandIn t (reading text).paragraphs in
    subst P (bytes_of-lines 1 text) (read_stand (bytes_of (lines_from 1 text)) (paragraphs_of (lines_from 1 text)) (paragraphs_stand (lines_from 1 text)))
