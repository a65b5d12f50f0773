-- What is read of a text from one paragraph to the next.
use Rattle.std.proofs.Common.{◌≡◌, ℕ, ◌+◌, ◌-◌, ◌^◌, ◌<◌, Bool, true, false, not, cond, List, [], ◌∷◌, ◌++◌, map, length, take, refl, ap, sym, ◌∙◌, arith, length-append, Option, Some, None, Ok, Err, Result}
use Rattle.std.specs.List.{list_all, filter}
use Rattle.std.proofs.lemmas.Bool.{false≢true}
use Rattle.std.proofs.lemmas.List.{append-nil, nil_from_length, take_at}
use Rattle.control_file.specs.declared.CtlFault.{CtlFault}
use Rattle.control_file.specs.declared.CtlKind.{CtlKind}
use Rattle.control_file.specs.declared.CtlKind.TheVariants.{NoFieldYet}
use Rattle.control_file.specs.Text.{Line, cut, numbered, lines_from, bytes_of, is_blank, names_of, name_of, continues, begins_with_space, without_line_end, fault_of_field, at_line_or, fault_of_line, fault_behind, first_fault, fields_of, paragraphs_of, first_number, paragraph_of, read_first, read_paragraphs, reading_of, Reading, ParagraphText}
use Rattle.control_file.specs.Answers.{is_paragraph_next, answer_of, first_answer, behind_first, without_first, Reads, Leaves}
use Rattle.control_file.specs.Passes.{faulty, Passed, IsFirstLine, SkipsBlank, Scans, at_line}
use Rattle.control_file.proofs.Cuts.{passed_lines, passed_more, bytes_of-lines}
use Rattle.lists.proofs.Tests.{list_all-end}
use Rattle.control_file.proofs.Runs.{paragraphs_of-blank, paragraphs_of-full, paragraphs_of-front, Faultless, faultless_end, fault_next, length-fields_of}

-- where blank lines were skipped the same is read
pub skips_reading : (n : ℕ) (old : List ℕ) (m : ℕ) (rest : List ℕ) → SkipsBlank n old m rest → reading_of (at_line old n) ≡ reading_of (at_line rest m)
skips_reading n old m rest s =
    ap (λ (ls : List Line). read_paragraphs (paragraphs_of ls)) (passed_lines n old m rest s.lines s.passed) ∙ ap read_paragraphs (paragraphs_of-blank n s.lines (lines_from m rest) s.blank)

-- the line of a fault
pub reading_faulty : (n : ℕ) (old : List ℕ) (m : ℕ) (rest : List ℕ) (lines : List (List ℕ)) (first after : List ℕ) (named : List (List ℕ)) (kind : CtlKind) → Passed n old m rest lines → IsFirstLine rest first after → list_all (λ l. not (is_blank l)) lines ≡ true → is_blank first ≡ false → named ≡ names_of (numbered n lines) → Faultless n lines → fault_of_line named first ≡ Some kind → reading_of (at_line old n) ≡ faulty (record { line = m; kind = kind })
reading_faulty n old m rest lines first after named kind p f full unblank names faultless is =
    let lines' = lines ++ first ∷ [] in
    let p' = passed_more n old m rest lines first after p f in
    let full' = list_all-end (λ l. not (is_blank l)) lines first full (ap not unblank) in
    let some : 0 < length lines' = omega (arith, length-append lines (first ∷ [])) in
    let r = paragraphs_of-front n lines' (lines_from (m + 1) after) some full' in
    let here = fault_next n lines first kind r.0 faultless (ap (λ ns. fault_of_line ns first) (sym names) ∙ is) in
    let paragraph = numbered n lines' ++ r.0 in
    ap (λ (ls : List Line). read_paragraphs (paragraphs_of ls)) (passed_lines n old (m + 1) after lines' p')
    ∙ ap read_paragraphs r.2
    ∙ ap (λ fault. read_first fault (paragraph_of paragraph) (read_paragraphs r.1)) here
    ∙ ap (λ k. faulty (record { line = k; kind = kind })) (sym p.number)

-- a line without fault at the front of a paragraph begins a field
begins_named : (continued : Bool) (l : Line) (later : List Line) (left : Option CtlKind) (number : ℕ) (fault : Option CtlFault) → at_line_or (cond continued (Some NoFieldYet) left) number fault ≡ None → 0 < length (map name_of (cond (not continued) (l ∷ later) later))
begins_named true l later left number fault none = absurd (cc)
begins_named false l later left number fault none = omega arith

names_some : (n : ℕ) (l : List ℕ) (lines : List (List ℕ)) → first_fault (numbered n (l ∷ lines)) ≡ None → 0 < length (names_of (numbered n (l ∷ lines)))
names_some n l lines none =
    let here : Line = record { number = n; bytes = l } in
    let later = numbered (n + 1) lines in
    begins_named (begins_with_space l) here (filter (λ (x : Line). not (continues x)) later) (fault_of_field [] (without_line_end l)) n (fault_behind (here ∷ []) later) none

-- the end of a paragraph without fault
pub scans_end : (n : ℕ) (old : List ℕ) (m : ℕ) (rest : List ℕ) (lines : List (List ℕ)) (named : List (List ℕ)) → Passed n old m rest lines → list_all (λ l. not (is_blank l)) lines ≡ true → named ≡ names_of (numbered n lines) → Faultless n lines → is_paragraph_next (cut old) ≡ true → is_paragraph_next (cut rest) ≡ false → Scans n old m rest named
scans_end n old m rest [] named p full names faultless next stops =
    absurd (false≢true (sym stops ∙ ap is_paragraph_next (sym p.text_lines) ∙ next))
scans_end n old m rest (l ∷ lines) named p full names faultless next stops = record {
  lines = l ∷ lines;
  passed = p;
  some = omega arith;
  full = full;
  names = names;
  named_some = omega (arith, ap length names, names_some n l lines (faultless_end n (l ∷ lines) faultless));
  faultless = faultless_end n (l ∷ lines) faultless;
  stops = stops;
}

-- a paragraph without fault is read, and then what stands behind it
pub scans_reading : (n : ℕ) (old : List ℕ) (m : ℕ) (rest : List ℕ) (named : List (List ℕ)) (s : Scans n old m rest named) → reading_of (at_line old n) ≡ read_first None (paragraph_of (numbered n s.lines)) (reading_of (at_line rest m))
scans_reading n old m rest named s =
    let here = numbered n s.lines in
    let later = read_paragraphs (paragraphs_of (lines_from m rest)) in
    ap (λ (ls : List Line). read_paragraphs (paragraphs_of ls)) (passed_lines n old m rest s.lines s.passed)
    ∙ ap read_paragraphs (paragraphs_of-full n s.lines m (cut rest) s.some s.full s.stops)
    ∙ ap (λ fault. read_first fault (paragraph_of here) later) s.faultless

pub front_is : (n : ℕ) (old : List ℕ) (m : ℕ) (rest : List ℕ) (lines : List (List ℕ)) (p : Passed n old m rest lines) → take (length old - length rest) old ≡ p.front
front_is n old m rest lines p =
    let long : length old - length rest ≡ length p.front = omega (arith, ap length p.text, length-append p.front rest) in
    ap (λ k. take k old) long ∙ ap (take (length p.front)) p.text ∙ take_at p.front rest (length p.front) refl

first_number-numbered : (n : ℕ) (lines : List (List ℕ)) → 0 < length lines → first_number (numbered n lines) ≡ n
first_number-numbered n [] some = absurd (omega arith)
first_number-numbered n (l ∷ lines) some = refl

abbrev pub paragraph_at : ℕ → List ℕ → ParagraphText
paragraph_at n text = record { line = n; fields = fields_of (lines_from n text); text = text }

-- the part of a text that was passed, as a paragraph
pub paragraph_is : (n : ℕ) (old : List ℕ) (m : ℕ) (rest : List ℕ) (lines : List (List ℕ)) → Passed n old m rest lines → 0 < length lines → paragraph_at n (take (length old - length rest) old) ≡ paragraph_of (numbered n lines)
paragraph_is n old m rest lines p some =
    let whole : bytes_of (numbered n lines) ≡ p.front = ap (λ ls. bytes_of (numbered n ls)) (sym p.front_lines) ∙ bytes_of-lines n p.front in
    let same : paragraph_at n p.front ≡ record { line = n; fields = fields_of (numbered n lines); text = p.front } = ap (λ ls. record { line = n; fields = fields_of (numbered n ls); text = p.front }) p.front_lines in
    ap (paragraph_at n) (front_is n old m rest lines p) ∙ same ∙ ap (λ t. record { line = n; fields = fields_of (numbered n lines); text = t }) (sym whole) ∙ ap (λ k. record { line = k; fields = fields_of (numbered n lines); text = bytes_of (numbered n lines) }) (sym (first_number-numbered n lines some))

-- what a reader answers and leaves, from a place with a line number to another
pub record Answered (n : ℕ) (old : List ℕ) (result : Result (Option ParagraphText) CtlFault) (k : ℕ) (left : List ℕ) : Type 0 where
  pub answer : result ≡ answer_of (reading_of (at_line old n))
  pub behind : reading_of (at_line left k) ≡ behind_first (reading_of (at_line old n))
  pub leaves : Leaves (at_line old n) result (at_line left k)

reads_first : (result : Result (Option ParagraphText) CtlFault) (ps : List ParagraphText) (fault : Option CtlFault) (new : Reading) → result ≡ first_answer ps fault → new ≡ record { paragraphs = without_first ps; fault = fault } → Reads result (record { paragraphs = ps; fault = fault }) new
reads_first (Ok None) [] None new e is = (refl, refl, is)
reads_first (Ok None) [] (Some f) new e is = absurd (cc)
reads_first (Ok None) (p ∷ ps) fault new e is = absurd (cc)
reads_first (Ok (Some q)) [] None new e is = absurd (cc)
reads_first (Ok (Some q)) [] (Some f) new e is = absurd (cc)
reads_first (Ok (Some q)) (p ∷ ps) fault new e is =
    let same : q ≡ p = cc in
    (ap (λ (x : ParagraphText). x ∷ ps) (sym same) ∙ ap (λ (r : Reading). q ∷ r.paragraphs) (sym is), ap (λ (r : Reading). r.fault) (sym is))
reads_first (Err g) [] None new e is = absurd (cc)
reads_first (Err g) [] (Some f) new e is =
    let same : g ≡ f = cc in
    (refl, ap Some (sym same), is)
reads_first (Err g) (p ∷ ps) fault new e is = absurd (cc)

pub reads_answer : (result : Result (Option ParagraphText) CtlFault) (old new : Reading) → result ≡ answer_of old → new ≡ behind_first old → Reads result old new
reads_answer result old new e is = reads_first result old.paragraphs old.fault new e is

pub answered_none : (n : ℕ) (old : List ℕ) (m : ℕ) (rest : List ℕ) → SkipsBlank n old m rest → length rest ≡ 0 → Answered n old (Ok None) m rest
answered_none n old m rest s none =
    let empty : rest ≡ [] = nil_from_length rest none in
    let read : reading_of (at_line old n) ≡ reading_of (at_line [] m) = skips_reading n old m rest s ∙ ap (λ r. reading_of (at_line r m)) empty in
    let p = s.passed in
    record {
      answer = sym (ap answer_of read);
      behind = ap (λ r. reading_of (at_line r m)) empty ∙ sym (ap behind_first read);
      leaves = record {
        blank = p.front;
        are_blank = ap (list_all is_blank) p.front_lines ∙ s.blank;
        text = p.text;
        line = p.number ∙ ap (λ ls. n + length ls) (sym p.front_lines) ∙ ap (λ t. n + length (cut t)) (sym (append-nil p.front));
        stops = empty;
      };
    }

pub answered_fault : (n : ℕ) (old : List ℕ) (m : ℕ) (rest : List ℕ) (fault : CtlFault) → SkipsBlank n old m rest → 0 < length rest → reading_of (at_line rest m) ≡ faulty fault → Answered n old (Err fault) m rest
answered_fault n old m rest fault s some is =
    let read : reading_of (at_line old n) ≡ faulty fault = skips_reading n old m rest s ∙ is in
    let p = s.passed in
    record {
      answer = sym (ap answer_of read);
      behind = is ∙ sym (ap behind_first read);
      leaves = record {
        blank = p.front;
        are_blank = ap (list_all is_blank) p.front_lines ∙ s.blank;
        text = p.text;
        line = p.number ∙ ap (λ ls. n + length ls) (sym p.front_lines) ∙ ap (λ t. n + length (cut t)) (sym (append-nil p.front));
        stops = s.stops some;
      };
    }

pub answered_some : (n : ℕ) (old : List ℕ) (m : ℕ) (rest : List ℕ) (k : ℕ) (left : List ℕ) (named : List (List ℕ)) → SkipsBlank n old m rest → 0 < length rest → Scans m rest k left named → Answered n old (Ok (Some (paragraph_at m (take (length rest - length left) rest)))) k left
answered_some n old m rest k left named s some t =
    let p = s.passed in
    let q = t.passed in
    let text : take (length rest - length left) rest ≡ q.front = front_is m rest k left t.lines q in
    let read : reading_of (at_line old n) ≡ read_first None (paragraph_of (numbered m t.lines)) (reading_of (at_line left k)) = skips_reading n old m rest s ∙ scans_reading m rest k left named t in
    let cuts : cut (p.front ++ q.front) ≡ s.lines ++ t.lines = p.ends_line some q.front ∙ ap (λ ls. s.lines ++ ls) q.front_lines in
    record {
      answer = ap (λ (x : ParagraphText). Ok (Some x)) (paragraph_is m rest k left t.lines q t.some) ∙ sym (ap answer_of read);
      behind = sym (ap behind_first read);
      leaves = record {
        blank = p.front;
        are_blank = ap (list_all is_blank) p.front_lines ∙ s.blank;
        text = p.text ∙ ap (λ r. p.front ++ r) q.text ∙ ap (λ f. p.front ++ (f ++ left)) (sym text);
        line = q.number ∙ ap (λ j. j + length t.lines) p.number ∙ omega (arith, ap length cuts, length-append s.lines t.lines) ∙ ap (λ f. n + length (cut (p.front ++ f))) (sym text);
        stops = tt;
      };
    }

-- a paragraph takes bytes
pub some_taken : (m : ℕ) (rest : List ℕ) (k : ℕ) (left : List ℕ) (named : List (List ℕ)) → Scans m rest k left named → length left < length rest
some_taken m rest k left named t =
    let q = t.passed in
    lines_have_bytes q.front left rest t.lines q.text q.front_lines t.some
  where
    lines_have_bytes : (front left rest : List ℕ) (lines : List (List ℕ)) → rest ≡ front ++ left → cut front ≡ lines → 0 < length lines → length left < length rest
    lines_have_bytes [] left rest lines e cuts some = absurd (omega (arith, ap length cuts))
    lines_have_bytes (b ∷ bs) left rest lines e cuts some = omega (arith, ap length e, length-append (b ∷ bs) left)

-- how many fields a paragraph has, and that its line numbers fit
pub paragraph_fits : (m : ℕ) (rest : List ℕ) (k : ℕ) (left : List ℕ) (named : List (List ℕ)) → Scans m rest k left named → m + length rest < 2 ^ 64 → let text = take (length rest - length left) rest in (length named ≡ length (fields_of (lines_from m text))) × (m + length text < 2 ^ 64)
paragraph_fits m rest k left named t bound =
    let q = t.passed in
    let text : take (length rest - length left) rest ≡ q.front = front_is m rest k left t.lines q in
    let lines : lines_from m (take (length rest - length left) rest) ≡ numbered m t.lines = ap (lines_from m) text ∙ ap (numbered m) q.front_lines in (
      ap length t.names ∙ sym (length-fields_of (numbered m t.lines)) ∙ ap (λ ls. length (fields_of ls)) (sym lines),
      omega (arith, ap length text, ap length q.text, length-append q.front left),
    )
