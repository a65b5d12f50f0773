-- Fields of a paragraph, one after the other.
use Rattle.std.proofs.Common.{◌≡◌, ℕ, zero, suc, ◌+◌, ◌-◌, ◌<◌, ◌≤◌, Bool, true, false, cond, List, [], ◌∷◌, ◌++◌, length, take, drop, refl, ap, sym, ◌∙◌, arith, append_assoc, length-append, Some, eqb}
use Rattle.std.specs.Prelude.{slice_get}
use Rattle.std.specs.List.{list_all, before_first, take_while, onto_first}
use Rattle.std.proofs.lemmas.Bool.{and_parts}
use Rattle.std.proofs.lemmas.List.{append-nil, take_at, length-drop, drop-drop}
use Rattle.std.specs.Str.{str_eq_ignore_ascii_case}
use Rattle.std.proofs.lemmas.List.Sums.{take_while-cons}
use Rattle.control_file.specs.Text.{Line, FieldText, cut, numbered, lines_from, bytes_of, is_space, is_colon, begins_with_space, continues, without_line_end, trimmed, field_of, fields_of, field_named}
use Rattle.control_file.specs.Raw.{raw_text}
use Rattle.control_file.specs.declared.raw.RawField.{RawField}
use Rattle.control_file.specs.Passes.{IsFirstLine, SkipsContinued, TakesField}
use Rattle.control_file.proofs.Cuts.{numbered-append, passed_lines, bytes_of-lines}

-- a text begins as its first line does
none_continue : (m : ℕ) (rest : List ℕ) → begins_with_space rest ≡ false → take_while continues (lines_from m rest) ≡ []
none_continue m [] other = refl
none_continue m (b ∷ bs) other =
    elim (eqb b 10) as (λ t. take_while continues (numbered m (cond t ((b ∷ []) ∷ cut bs) (onto_first b (cut bs)))) ≡ []) [
      | true ↦ rw other refl
      | false ↦ none_onto m b (cut bs) other
    ]
  where
    none_onto : (m b : ℕ) (ls : List (List ℕ)) → is_space b ≡ false → take_while continues (numbered m (onto_first b ls)) ≡ []
    none_onto m b [] other = rw other refl
    none_onto m b (l ∷ ls) other = rw other refl

take_continued : (n : ℕ) (lines : List (List ℕ)) (ls : List Line) → list_all begins_with_space lines ≡ true → take_while continues ls ≡ [] → take_while continues (numbered n lines ++ ls) ≡ numbered n lines
take_continued n [] ls all end = end
take_continued n (l ∷ lines) ls all end =
    let both = and_parts (begins_with_space l) (list_all begins_with_space lines) all in
    let here : Line = record { number = n; bytes = l } in
    take_while-cons continues here (numbered (n + 1) lines ++ ls)
    ∙ ap (λ b. cond b (here ∷ take_while continues (numbered (n + 1) lines ++ ls)) []) both.0
    ∙ ap (λ r. here ∷ r) (take_continued (n + 1) lines ls both.1 end)

fields_of_continued : (n : ℕ) (lines : List (List ℕ)) (ls : List Line) → list_all begins_with_space lines ≡ true → fields_of (numbered n lines ++ ls) ≡ fields_of ls
fields_of_continued n [] ls all = refl
fields_of_continued n (l ∷ lines) ls all =
    let both = and_parts (begins_with_space l) (list_all begins_with_space lines) all in
    let here : Line = record { number = n; bytes = l } in
    let later = numbered (n + 1) lines ++ ls in
    ap (λ b. cond b (fields_of later) (field_of here (take_while continues later) ∷ fields_of later)) both.0 ∙ fields_of_continued (n + 1) lines ls both.1

-- lines that continue a field are other fields of their own
pub skips_fields : (n : ℕ) (old : List ℕ) (m : ℕ) (rest : List ℕ) → SkipsContinued n old m rest → fields_of (lines_from n old) ≡ fields_of (lines_from m rest)
skips_fields n old m rest s = ap fields_of (passed_lines n old m rest s.lines s.passed) ∙ fields_of_continued n s.lines (lines_from m rest) s.continued

begins_same : (first after : List ℕ) → 0 < length first → begins_with_space (first ++ after) ≡ begins_with_space first
begins_same [] after some = absurd (omega arith)
begins_same (b ∷ bs) after some = refl

pub begins_first : (old first after : List ℕ) → IsFirstLine old first after → begins_with_space old ≡ begins_with_space first
begins_first old first after f = ap begins_with_space f.text ∙ begins_same first after f.some

-- ---- fields of numbered lines

take_while_before : (xs : List Line) (l : Line) (ls : List Line) → continues l ≡ false → take_while continues (xs ++ l ∷ ls) ≡ take_while continues xs
take_while_before [] l ls other = take_while-cons continues l ls ∙ ap (λ b. cond b (l ∷ take_while continues ls) []) other
take_while_before (x ∷ xs) l ls other =
    take_while-cons continues x (xs ++ l ∷ ls)
    ∙ ap (λ (more : List Line). cond (continues x) (x ∷ more) []) (take_while_before xs l ls other)
    ∙ sym (take_while-cons continues x xs)

-- the fields of lines, and then those that begin with a line that continues none
fields_of_both : (xs : List Line) (l : Line) (ls : List Line) → continues l ≡ false → fields_of (xs ++ l ∷ ls) ≡ fields_of xs ++ fields_of (l ∷ ls)
fields_of_both [] l ls other = refl
fields_of_both (x ∷ xs) l ls other =
    by (continues x) (field_of x (take_while continues (xs ++ l ∷ ls))) (field_of x (take_while continues xs)) (ap (field_of x) (take_while_before xs l ls other)) (fields_of_both xs l ls other)
  where
    by : (b : Bool) (f g : FieldText) → f ≡ g → fields_of (xs ++ l ∷ ls) ≡ fields_of xs ++ fields_of (l ∷ ls) → cond b (fields_of (xs ++ l ∷ ls)) (f ∷ fields_of (xs ++ l ∷ ls)) ≡ cond b (fields_of xs) (g ∷ fields_of xs) ++ fields_of (l ∷ ls)
    by true f g same later = later
    by false f g same later = ap (λ h. h ∷ fields_of (xs ++ l ∷ ls)) same ∙ ap (λ fs. g ∷ fs) later

-- a line and those that continue it are one field
one_field : (m : ℕ) (first : List ℕ) (more : List (List ℕ)) → begins_with_space first ≡ false → list_all begins_with_space more ≡ true
    → fields_of (numbered m (first ∷ more)) ≡ field_of (record { number = m; bytes = first }) (numbered (m + 1) more) ∷ []
one_field m first more other all =
    let here : Line = record { number = m; bytes = first } in
    let behind = numbered (m + 1) more in
    let end : behind ++ [] ≡ behind = append-nil behind in
    let taken : take_while continues behind ≡ behind = ap (take_while continues) (sym end) ∙ take_continued (m + 1) more [] all refl in
    let none : fields_of behind ≡ [] = ap fields_of (sym end) ∙ fields_of_continued (m + 1) more [] all in
    ap (λ b. cond b (fields_of behind) (field_of here (take_while continues behind) ∷ fields_of behind)) other
    ∙ ap (λ ls. field_of here ls ∷ fields_of behind) taken
    ∙ ap (λ fs. field_of here behind ∷ fs) none

-- a line that begins a field, and lines that continue it, add that field
pub fields_more : (n : ℕ) (lines : List (List ℕ)) (m : ℕ) (first : List ℕ) (more : List (List ℕ)) (raw : RawField)
    → m ≡ n + length lines → begins_with_space first ≡ false → list_all begins_with_space more ≡ true
    → raw.name.now ≡ before_first is_colon (without_line_end first) → raw.text.now ≡ bytes_of (numbered m (first ∷ more)) → raw.line ≡ m
    → fields_of (numbered n lines) ++ raw_text raw ∷ [] ≡ fields_of (numbered n (lines ++ first ∷ more))
fields_more n lines m first more raw number other all is body at =
    let here : Line = record { number = m; bytes = first } in
    let behind = numbered (m + 1) more in
    let name = raw.name.now in
    let same : raw_text raw ≡ field_of here behind =
    ap (λ (k : ℕ). record { name = name; value = trimmed (drop (length name + 1) (without_line_end raw.text.now)); line = k }) at
    ∙ ap (λ (b : List ℕ). record { name = name; value = trimmed (drop (length name + 1) (without_line_end b)); line = m }) body
    ∙ ap (λ (nm : List ℕ). record { name = nm; value = trimmed (drop (length nm + 1) (without_line_end (first ++ bytes_of behind))); line = m }) is in
    ap (λ (f : FieldText). fields_of (numbered n lines) ++ f ∷ []) same
    ∙ ap (λ fs. fields_of (numbered n lines) ++ fs) (sym (one_field m first more other all))
    ∙ sym (fields_of_both (numbered n lines) here behind other)
    ∙ ap (λ k. fields_of (numbered n lines ++ numbered k (first ∷ more))) number
    ∙ sym (ap fields_of (numbered-append n lines (first ∷ more)))

pub takes_field : (n : ℕ) (old first after : List ℕ) (m : ℕ) (rest name : List ℕ) → IsFirstLine old first after → SkipsContinued (n + 1) after m rest → begins_with_space old ≡ false → name ≡ before_first is_colon (without_line_end first) → TakesField n old (record { name = name; value = trimmed (drop (length name + 1) (without_line_end (take (length old - length rest) old))); line = n }) m rest
takes_field n old first after m rest name f s begins is =
    let here : Line = record { number = n; bytes = first } in
    let more = numbered (n + 1) s.lines in
    let p = s.passed in
    let later : lines_from (n + 1) after ≡ more ++ lines_from m rest = passed_lines (n + 1) after m rest s.lines p in
    let continued : take_while continues (lines_from (n + 1) after) ≡ more = ap (take_while continues) later ∙ take_continued (n + 1) s.lines (lines_from m rest) s.continued (none_continue m rest s.stops) in
    let other : continues here ≡ false = sym (begins_same first after f.some) ∙ ap begins_with_space (sym f.text) ∙ begins in
    let bytes : bytes_of more ≡ p.front = ap (λ ls. bytes_of (numbered (n + 1) ls)) (sym p.front_lines) ∙ bytes_of-lines (n + 1) p.front in
    let whole : old ≡ (first ++ p.front) ++ rest = f.text ∙ ap (λ r. first ++ r) p.text ∙ sym (append_assoc first p.front rest) in
    let long : length old - length rest ≡ length (first ++ p.front) = omega (arith, ap length whole, length-append (first ++ p.front) rest) in
    let body : take (length old - length rest) old ≡ first ++ bytes_of more = ap (λ k. take k old) long ∙ ap (take (length (first ++ p.front))) whole ∙ take_at (first ++ p.front) rest (length (first ++ p.front)) refl ∙ ap (λ r. first ++ r) (sym bytes) in
    let field : FieldText = record { name = name; value = trimmed (drop (length name + 1) (without_line_end (take (length old - length rest) old))); line = n } in
    let same : field_of here more ≡ field =
    ap (λ (nm : List ℕ). record { name = nm; value = trimmed (drop (length nm + 1) (without_line_end (first ++ bytes_of more))); line = n }) (sym is)
    ∙ ap (λ (b : List ℕ). record { name = name; value = trimmed (drop (length name + 1) (without_line_end b)); line = n }) (sym body) in
    record {
      fields = ap (λ ls. fields_of (numbered n ls)) f.lines
          ∙ ap (λ b. cond b (fields_of (lines_from (n + 1) after)) (field_of here (take_while continues (lines_from (n + 1) after)) ∷ fields_of (lines_from (n + 1) after))) other
          ∙ ap (λ ls. field_of here ls ∷ fields_of (lines_from (n + 1) after)) continued
          ∙ ap (λ fs. field_of here more ∷ fs) (skips_fields (n + 1) after m rest s)
          ∙ ap (λ x. x ∷ fields_of (lines_from m rest)) same;
      shorter = omega (arith, ap length f.text, length-append first after, f.some, ap length p.text, length-append p.front rest);
      bound = p.bound;
      begins = s.stops;
    }

-- a place in a list whose rest is known
pub get_front : {X : Type 0} (xs : List X) (k : ℕ) (x : X) (ys : List X) → drop k xs ≡ x ∷ ys → slice_get xs k ≡ Some x
get_front [] zero x ys e = absurd (cc)
get_front [] (suc k) x ys e = absurd (cc)
get_front (y ∷ xs) zero x ys e = let same : y ≡ x = cc in ap Some same
get_front (y ∷ xs) (suc k) x ys e = get_front xs k x ys e

pub drop_next : {X : Type 0} (xs : List X) (k : ℕ) (x : X) (ys : List X) → drop k xs ≡ x ∷ ys → drop (k + 1) xs ≡ ys
drop_next xs k x ys e = sym (drop-drop 1 k xs) ∙ ap (drop 1) e

pub some_left : {X : Type 0} (xs : List X) (k : ℕ) (ys : List X) → drop k xs ≡ ys → k < length xs → 0 < length ys
some_left xs k ys e lt = omega (arith, ap length e, length-drop k xs)

-- where fields are left, bytes are
pub bytes_left : (m : ℕ) (rest : List ℕ) → 0 < length (fields_of (lines_from m rest)) → 0 < length rest
bytes_left m [] some = absurd (omega arith)
bytes_left m (b ∷ bs) some = omega arith

pub named_next : (name : List ℕ) (f : FieldText) (fs : List FieldText) (fields : List FieldText) → fields ≡ f ∷ fs → str_eq_ignore_ascii_case f.name name ≡ false → field_named name fields ≡ field_named name fs
named_next name f fs fields e other = ap (field_named name) e ∙ ap (λ b. cond b (Some f) (field_named name fs)) other

pub named_here : (name : List ℕ) (f : FieldText) (fs : List FieldText) (fields : List FieldText) → fields ≡ f ∷ fs → str_eq_ignore_ascii_case f.name name ≡ true → field_named name fields ≡ Some f
named_here name f fs fields e same = ap (field_named name) e ∙ ap (λ b. cond b (Some f) (field_named name fs)) same

-- a text has at least as many bytes as fields
fields_within : (ls : List Line) → length (fields_of ls) ≤ length ls
fields_within [] = omega arith
fields_within (l ∷ ls) =
    elim (continues l) as (λ b. length (cond b (fields_of ls) (field_of l (take_while continues ls) ∷ fields_of ls)) ≤ suc (length ls)) [
      | true ↦ omega (arith, fields_within ls)
      | false ↦ omega (arith, fields_within ls)
    ]

onto_within : (n b : ℕ) (ls : List (List ℕ)) → length (numbered n (onto_first b ls)) ≤ 1 + length (numbered n ls)
onto_within n b [] = omega arith
onto_within n b (l ∷ ls) = omega arith

lines_within : (n : ℕ) (text : List ℕ) → length (lines_from n text) ≤ length text
lines_within n [] = omega arith
lines_within n (b ∷ bs) =
    elim (eqb b 10) as (λ t. length (numbered n (cond t ((b ∷ []) ∷ cut bs) (onto_first b (cut bs)))) ≤ suc (length bs)) [
      | true ↦ omega (arith, lines_within (n + 1) bs)
      | false ↦ omega (arith, onto_within n b (cut bs), lines_within n bs)
    ]

pub fields_within_text : (n : ℕ) (text : List ℕ) → length (fields_of (lines_from n text)) ≤ length text
fields_within_text n text = omega (arith, fields_within (lines_from n text), lines_within n text)
