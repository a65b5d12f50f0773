-- One field more of a paragraph: its line, and the lines that continue it.
use Rattle.std.proofs.Common.{◌≡◌, ℕ, ◌+◌, ◌-◌, ◌<◌, true, false, not, cond, List, [], ◌∷◌, ◌++◌, length, take, refl, ap, sym, ◌∙◌, subst, arith, append_assoc, length-append, None, Some}
use Rattle.std.specs.List.{list_all, before_first}
use Rattle.std.proofs.lemmas.Bool.{and_parts, and_from}
use Rattle.std.proofs.lemmas.List.{append-nil}
use Rattle.std.proofs.lemmas.List.Folds.{list_all-append}
use Rattle.control_file.specs.declared.CtlKind.TheVariants.{NoFieldYet}
use Rattle.control_file.specs.Text.{numbered, bytes_of, is_blank, is_colon, begins_with_space, without_line_end, is_none_yet, names_of, fault_of_field, fault_of_line}
use Rattle.control_file.specs.Passes.{Passed, IsFirstLine, SkipsIndented, BeginsField}
use Rattle.control_file.proofs.Cuts.{passed_first, passed_both, bytes_of-lines}
use Rattle.control_file.proofs.Runs.{Faultless, faultless_more, names_of_push}
use Rattle.control_file.proofs.Readings.{front_is}

none_yet : (names : List (List ℕ)) → 0 < length names → is_none_yet names ≡ false
none_yet [] some = absurd (omega arith)
none_yet (n ∷ ns) some = refl

-- a line that continues a field has no fault behind a name
continued_faultless : (names : List (List ℕ)) (line : List ℕ) → 0 < length names → begins_with_space line ≡ true → fault_of_line names line ≡ None
continued_faultless names line some begins =
    ap (λ b. cond b (cond (is_none_yet names) (Some NoFieldYet) None) (fault_of_field names (without_line_end line))) begins
    ∙ ap (λ b. cond b (Some NoFieldYet) None) (none_yet names some)

-- lines that continue a field have no name and no fault
record Goes (n : ℕ) (lines more : List (List ℕ)) : Type 0 where
  pub names : names_of (numbered n (lines ++ more)) ≡ names_of (numbered n lines)
  pub faultless : Faultless n (lines ++ more)

goes_on : (n : ℕ) (lines more : List (List ℕ)) → 0 < length (names_of (numbered n lines)) → list_all begins_with_space more ≡ true → Faultless n lines → Goes n lines more
goes_on n lines [] some all f =
    let same = append-nil lines in
    record {
      names = ap (λ ls. names_of (numbered n ls)) same;
      faultless = subst (Faultless n) (sym same) f;
    }
goes_on n lines (x ∷ more) some all f =
    let both = and_parts (begins_with_space x) (list_all begins_with_space more) all in
    let old = names_of (numbered n lines) in
    let same : names_of (numbered n (lines ++ x ∷ [])) ≡ old =
    names_of_push n lines x ∙ ap (λ b. old ++ cond b [] (before_first is_colon (without_line_end x) ∷ [])) both.0 ∙ append-nil old in
    let later = goes_on n (lines ++ x ∷ []) more (omega (arith, some, ap length same)) both.1 (faultless_more n lines x f (continued_faultless old x some both.0)) in
    let whole : (lines ++ x ∷ []) ++ more ≡ lines ++ x ∷ more = append_assoc lines (x ∷ []) more in
    record {
      names = ap (λ ls. names_of (numbered n ls)) (sym whole) ∙ later.names ∙ same;
      faultless = subst (Faultless n) whole later.faultless;
    }

-- what is known of a paragraph's lines behind one field more
pub record TakesLines (n : ℕ) (old : List ℕ) (k : ℕ) (left : List ℕ) (lines : List (List ℕ)) (named : List (List ℕ)) : Type 0 where
  pub passed : Passed n old k left lines
  pub full : list_all (λ l. not (is_blank l)) lines ≡ true
  pub names : named ≡ names_of (numbered n lines)
  pub faultless : Faultless n lines

pub takes_lines : (n : ℕ) (old : List ℕ) (m : ℕ) (rest : List ℕ) (lines : List (List ℕ)) (first after : List ℕ) (k : ℕ) (left : List ℕ) (named new : List (List ℕ)) (name : List ℕ)
    → Passed n old m rest lines → list_all (λ l. not (is_blank l)) lines ≡ true → named ≡ names_of (numbered n lines) → Faultless n lines
    → IsFirstLine rest first after → is_blank first ≡ false → BeginsField named first name new → (s : SkipsIndented (m + 1) after k left)
    → TakesLines n old k left (lines ++ first ∷ s.lines) new
takes_lines n old m rest lines first after k left named new name p full names f line unblank b s =
    let some : 0 < length rest = omega (arith, ap length line.text, length-append first after, line.some) in
    let old_names = names_of (numbered n lines) in
    let here : names_of (numbered n (lines ++ first ∷ [])) ≡ new =
    names_of_push n lines first
    ∙ ap (λ t. old_names ++ cond t [] (before_first is_colon (without_line_end first) ∷ [])) b.begins
    ∙ ap (λ nm. old_names ++ nm ∷ []) (sym b.named)
    ∙ ap (λ ns. ns ++ name ∷ []) (sym names)
    ∙ sym b.names in
    let long : 0 < length (names_of (numbered n (lines ++ first ∷ []))) = omega (arith, ap length here, ap length b.names, length-append named (name ∷ [])) in
    let faultless = faultless_more n lines first f (ap (λ ns. fault_of_line ns first) (sym names) ∙ b.faultless) in
    let goes = goes_on n (lines ++ first ∷ []) s.lines long s.continued faultless in
    let whole : (lines ++ first ∷ []) ++ s.lines ≡ lines ++ first ∷ s.lines = append_assoc lines (first ∷ []) s.lines in
    record {
      passed = passed_both n old m rest lines k left (first ∷ s.lines) some p (passed_first m rest first after k left s.lines line s.passed);
      full = list_all-append (λ l. not (is_blank l)) lines (first ∷ s.lines) ∙ and_from (list_all (λ l. not (is_blank l)) lines) _ full (and_from (not (is_blank first)) (list_all (λ l. not (is_blank l)) s.lines) (ap not unblank) s.full);
      names = sym here ∙ sym goes.names ∙ ap (λ ls. names_of (numbered n ls)) whole;
      faultless = subst (Faultless n) whole goes.faultless;
    }

-- the bytes of a field's lines
pub field_bytes : (m : ℕ) (rest first after : List ℕ) (k : ℕ) (left : List ℕ) → IsFirstLine rest first after → (s : SkipsIndented (m + 1) after k left)
    → take (length rest - length left) rest ≡ bytes_of (numbered m (first ∷ s.lines))
field_bytes m rest first after k left line s =
    let p = passed_first m rest first after k left s.lines line s.passed in
    front_is m rest k left (first ∷ s.lines) p ∙ sym (ap (λ ls. bytes_of (numbered m ls)) (sym p.front_lines) ∙ bytes_of-lines m p.front)

pub field_shorter : (m : ℕ) (rest first after : List ℕ) (k : ℕ) (left : List ℕ) → IsFirstLine rest first after → SkipsIndented (m + 1) after k left → length left < length rest
field_shorter m rest first after k left line s =
    omega (arith, ap length line.text, length-append first after, line.some, ap length s.passed.text, length-append s.passed.front left)
