-- How far each call of the reader reads, in the words of its steps.
use Rattle.std.proofs.Common.{◌≡◌, ℕ, suc, ◌+◌, ◌*◌, ◌-◌, ◌<◌, ◌≤◌, List, [], ◌∷◌, ◌++◌, length, take, drop, get_or, Bool, true, false, not, ◌&&◌, nat_eq, nat_le, Option, Some, None, is_some, Result, Ok, Err, refl, sym, ap, ◌∙◌, subst, inl, inr, append_assoc, append-nil, arith}
use Rattle.std.specs.List.{list_all, prefix_len}
use Rattle.std.specs.Option.{option_map}
use Rattle.std.proofs.lemmas.Bool.{and_from, and_parts, eqb-true, eqb-false, leb-true, le-leb, cases_Bool, cases_lt, both_ways, not-true, false_from_ne_true}
use Rattle.std.proofs.lemmas.List.{take_more, length-append, length-take-le, length-drop, take-append-drop, get_or-drop}
use Rattle.std.proofs.Math.Seq.{take-append_seam, take-append-add}
use Rattle.std.proofs.Math.Nat.{eq-or-lt_of_le, add-zero}
use Rattle.std.proofs.lemmas.List.Folds.{list_all-append}
use Rattle.std.proofs.lemmas.List.Sums.{fold_push, prefix_len_is}
use Rattle.cost_vector.specs.declared.cost_spec.Term.{Term}
use Rattle.cost_vector.specs.declared.cost_spec.Level.{Level}
use Rattle.std.specs.Char.{is_ascii_digit, is_ascii_lowercase}
use Rattle.cost_vector.specs.Grammar.{listed, is_name_byte, is_max, is_small, is_number, is_empty, decimal_value, name_of, term, term_of, sum_of, closed_of, level, level_of}
use Rattle.cost_vector.specs.declared.reader.Stop.{Stop}
use Rattle.cost_vector.specs.declared.reader.Stop.TheVariants.{Fault, NoMemory}
use Rattle.cost_vector.specs.Reading.{IsStart, IsStop, IsLongestStart, IsPartway, Reads, ReadsOr, OrFault, LeadsTo, IsRun, IsNumberRun, begins, is_byte, begins_with_max}
use Rattle.cost_vector.proofs.Starts.{Lacks, IsEnd, reads_behind, partway-fault, partway-end, partway-more}
use Rattle.cost_vector.proofs.Words.{blank}
use Rattle.cost_vector.proofs.TermTexts.{name_of-blank, term_of-blank, name_no_letter, name_max, name_read, term_no_star, term_star, term_plain, letter_in_name, small_front}
use Rattle.cost_vector.proofs.LevelTexts.{level_of-blank, max_word, level_no_open, level_open, level_plain, closed_unclosed, closed_read}

-- a run of bytes that pass, by its length
run_at : (p : ℕ → Bool) (text : List ℕ) (count : ℕ) → count ≡ prefix_len p text → IsRun p text (take count text) (drop count text)
run_at p [] count e = record { split = rw e refl; all = rw e refl; ends = rw e refl }
run_at p (b ∷ bs) count e = elim (cases_Bool (p b)) as (λ _. IsRun p (b ∷ bs) (take count (b ∷ bs)) (drop count (b ∷ bs))) [
  | inl passes ↦
      let rest = run_at p bs (prefix_len p bs) refl in
      let longer : prefix_len p (b ∷ bs) ≡ suc (prefix_len p bs) = rw passes (omega arith) in
      let whole : count ≡ suc (prefix_len p bs) = e ∙ longer in
      rw whole (record { split = ap (λ text. b ∷ text) rest.split; all = and_from (p b) (list_all p (take (prefix_len p bs) bs)) passes rest.all; ends = rest.ends })
  | inr fails ↦
      let nothing : prefix_len p (b ∷ bs) ≡ 0 = rw fails refl in
      let whole : count ≡ 0 = e ∙ nothing in
      rw whole (record { split = refl; all = refl; ends = fails })
]

pub run_from : (p : ℕ → Bool) (text : List ℕ) (count : ℕ) → count ≤ length text → ((k : ℕ) → k < count → p (get_or text k 0) ≡ true) → (count < length text → p (get_or text count 0) ≡ false) → IsRun p text (take count text) (drop count text)
run_from p text count within all ends = run_at p text count (sym (prefix_len_is p text count 0 within all ends))

-- Spaces in front.
pub reads_after : {A : Type 0} (f : List ℕ → Option A) (whole s r left : List ℕ) (value : Option A) → IsRun (is_byte 32) whole s r → ((s text : List ℕ) → blank s ≡ true → f (s ++ text) ≡ f text) → Reads f r left value → Reads f whole left value
reads_after f whole s r left value run same n = record {
  bytes = s ++ n.bytes;
  split = run.split ∙ ap (λ text. s ++ text) n.split ∙ sym (append_assoc s n.bytes left);
  start = (n.start.0, ap is_some (ap f (append_assoc s n.bytes n.start.0) ∙ same s (n.bytes ++ n.start.0) run.all) ∙ n.start.1);
  stop = stops left n.stop;
  is = n.is ∙ sym (same s n.bytes run.all);
}
  where
    stops : (left : List ℕ) → IsStop f n.bytes left → IsStop f (s ++ n.bytes) left
    stops [] stop = tt
    stops (b ∷ bs) stop = λ rest. ap f (append_assoc s n.bytes (b ∷ rest)) ∙ same s (n.bytes ++ b ∷ rest) run.all ∙ stop rest

pub leads_reads : {A B : Type 0} (g : List ℕ → Option B) (f : List ℕ → Option A) (h : A → B) (whole mid left : List ℕ) (value : Option A) → LeadsTo g f h whole mid → Reads f mid left value → Reads g whole left (option_map h value)
leads_reads g f h whole mid left value l n = rw l.split (reads_behind f g h l.bytes l.goes_on mid left value n)

-- Names.
pub name_at_none : (whole s r : List ℕ) → IsRun (is_byte 32) whole s r → begins is_ascii_lowercase r ≡ false → Reads name_of whole r None
name_at_none whole s r run h = reads_after name_of whole s r r None run name_of-blank (name_no_letter r run.ends h)

no_empty_word : (r q : List ℕ) → begins is_ascii_lowercase r ≡ true → IsRun is_name_byte r [] q → ⊥
no_empty_word [] q h run = absurd (cc)
no_empty_word (b ∷ r) q h run = both_ways (is_name_byte b) (rw (sym run.split) at run.ends) (letter_in_name b h)

first_of_word : (r : List ℕ) (b : ℕ) (w q : List ℕ) → begins is_ascii_lowercase r ≡ true → IsRun is_name_byte r (b ∷ w) q → is_ascii_lowercase b ≡ true
first_of_word r b w q h run = rw run.split at h

pub name_at_max : (whole s r w q : List ℕ) → IsRun (is_byte 32) whole s r → begins is_ascii_lowercase r ≡ true → IsRun is_name_byte r w q → is_max w ≡ true → Reads name_of whole q None
name_at_max whole s r [] q run h word max = absurd (no_empty_word r q h word)
name_at_max whole s r (b ∷ w) q run h word max = reads_after name_of whole s r q None run name_of-blank (name_max r b w q word max)

pub name_at : (whole s r w q t u : List ℕ) → IsRun (is_byte 32) whole s r → begins is_ascii_lowercase r ≡ true → IsRun is_name_byte r w q → is_max w ≡ false → IsRun (is_byte 32) q t u → Reads name_of whole u (Some w)
name_at whole s r [] q t u run h word max spaces = absurd (no_empty_word r q h word)
name_at whole s r (b ∷ w) q t u run h word max spaces = reads_after name_of whole s r u (Some (b ∷ w)) run name_of-blank (name_read r b w t u q word (first_of_word r b w q h word) max spaces)

-- Terms.
pub times_fault : (r w q s u : List ℕ) → IsNumberRun r w q → IsRun (is_byte 32) q s u → begins (is_byte 42) u ≡ false → Reads term_of r u None
times_fault r [] q s u run spaces h = absurd (let nothing = run.number in cc)
times_fault r (b ∷ w) q s u run spaces h = term_no_star r b w q s u run spaces h

pub times_read : (r w q s u v : List ℕ) → IsNumberRun r w q → IsRun (is_byte 32) q s u → u ≡ 42 ∷ v → LeadsTo term_of name_of (term (decimal_value w)) r v
times_read r [] q s u v run spaces e = absurd (let nothing = run.number in cc)
times_read r (b ∷ w) q s u v run spaces e = term_star r b w q s u run spaces v e

pub term_after : (whole s r left : List ℕ) (value : Option Term) → IsRun (is_byte 32) whole s r → Reads term_of r left value → Reads term_of whole left value
term_after whole s r left value run n = reads_after term_of whole s r left value run term_of-blank n

pub term_times : (whole s r mid left : List ℕ) (times : ℕ) (name : Option (List ℕ)) → IsRun (is_byte 32) whole s r → LeadsTo term_of name_of (term times) r mid → Reads name_of mid left name → Reads term_of whole left (option_map (term times) name)
term_times whole s r mid left times name run l n = term_after whole s r left (option_map (term times) name) run (leads_reads term_of name_of (term times) r mid left name l n)

pub term_alone : (whole s r left : List ℕ) (name : Option (List ℕ)) → IsRun (is_byte 32) whole s r → begins is_ascii_digit r ≡ false → Reads name_of r left name → Reads term_of whole left (option_map (term 1) name)
term_alone whole s r left name run h n = term_after whole s r left (option_map (term 1) name) run (term_plain r left name run.ends h n)

-- Levels.
pub max_front : (r : List ℕ) → begins_with_max r ≡ true → (r ≡ max_word ++ drop 3 r) × (begins is_name_byte (drop 3 r) ≡ false)
max_front [] h = absurd (cc)
max_front (a ∷ []) h = absurd (cc)
max_front (a ∷ b ∷ []) h = absurd (cc)
max_front (a ∷ b ∷ c ∷ rest) h =
    let ends = and_parts (nat_eq a 109 && nat_eq b 97 && nat_eq c 120) (not (begins is_name_byte rest)) h in
    let both = and_parts (nat_eq a 109 && nat_eq b 97) (nat_eq c 120) ends.0 in
    let first = and_parts (nat_eq a 109) (nat_eq b 97) both.0 in
    (rw (eqb-true a 109 first.0, eqb-true b 97 first.1, eqb-true c 120 both.1) refl, not-true (begins is_name_byte rest) ends.1)

pub greatest_fault : (r s u : List ℕ) → begins_with_max r ≡ true → IsRun (is_byte 32) (drop 3 r) s u → begins (is_byte 40) u ≡ false → Reads level_of r u None
greatest_fault r s u h spaces k = let front = max_front r h in level_no_open r (drop 3 r) s u front.0 front.1 spaces k

pub greatest_read : (r s u v left : List ℕ) (terms : Option (List Term)) → begins_with_max r ≡ true → IsRun (is_byte 32) (drop 3 r) s u → u ≡ 40 ∷ v → Reads closed_of v left terms → Reads level_of r left (option_map (level true) terms)
greatest_read r s u v left terms h spaces e n =
    let front = max_front r h in
    let P : List ℕ → Type 0 = λ text. IsRun (is_byte 32) (drop 3 r) s text in
    leads_reads level_of closed_of (level true) r v left terms (level_open r (drop 3 r) s v front.0 (subst P e spaces)) n

pub level_after : (whole s r left : List ℕ) (value : Option Level) → IsRun (is_byte 32) whole s r → Reads level_of r left value → Reads level_of whole left value
level_after whole s r left value run n = reads_after level_of whole s r left value run level_of-blank n

pub level_alone : (whole s r left : List ℕ) (terms : Option (List Term)) → IsRun (is_byte 32) whole s r → begins_with_max r ≡ false → Reads sum_of r left terms → Reads level_of whole left (option_map (level false) terms)
level_alone whole s r left terms run h n = level_after whole s r left (option_map (level false) terms) run (level_plain r left terms run.ends h n)

-- Numbers, digit by digit.
decimal-push : (digits : List ℕ) (b : ℕ) → decimal_value (digits ++ b ∷ []) ≡ decimal_value digits * 10 + (b - 48)
decimal-push digits b = fold_push (λ value b. value * 10 + (b - 48)) 0 digits b

small_parts : (digits : List ℕ) → is_small digits ≡ true → (list_all is_ascii_digit digits ≡ true) × (length digits ≤ 7) × (decimal_value digits ≤ 1000000)
small_parts digits h =
    let value = and_parts (list_all is_ascii_digit digits && nat_le (length digits) 7) (nat_le (decimal_value digits) 1000000) h in
    let both = and_parts (list_all is_ascii_digit digits) (nat_le (length digits) 7) value.0 in
    (both.0, leb-true (length digits) 7 both.1, leb-true (decimal_value digits) 1000000 value.1)

small_from : (digits : List ℕ) → list_all is_ascii_digit digits ≡ true → length digits ≤ 7 → decimal_value digits ≤ 1000000 → is_small digits ≡ true
small_from digits h k v = and_from (list_all is_ascii_digit digits && nat_le (length digits) 7) (nat_le (decimal_value digits) 1000000) (and_from (list_all is_ascii_digit digits) (nat_le (length digits) 7) h (le-leb (length digits) 7 k)) (le-leb (decimal_value digits) 1000000 v)

filled : (xs : List ℕ) → 0 < length xs → not (is_empty xs) ≡ true
filled [] h = absurd (omega arith)
filled (x ∷ xs) h = refl

-- a text that goes on behind its longest number is none
pub not_number_whole : (word : List ℕ) (count : ℕ) → count < length word → is_number (take (count + 1) word) ≡ false → is_number word ≡ false
not_number_whole word count lt h = false_from_ne_true (is_number word) (λ n.
    let small = (and_parts (not (is_empty word)) (is_small word) n).1 in
    let front : is_small (take (count + 1) word) ≡ true = small_front (take (count + 1) word) (drop (count + 1) word) (ap is_small (take-append-drop (count + 1) word) ∙ small) in
    let counts : length (take (count + 1) word) ≡ count + 1 = length-take-le (count + 1) word (omega arith) in
    both_ways (is_number (take (count + 1) word)) h (and_from (not (is_empty (take (count + 1) word))) (is_small (take (count + 1) word)) (filled (take (count + 1) word) (omega arith)) front))

module _ (text : List ℕ) (place : ℕ) (lt : place < length text) where
  abbrev here : ℕ
  here = get_or text place 0

  front : take (place + 1) text ≡ take place text ++ here ∷ []
  front = take_more text place 0 lt

  count : length (take place text) ≡ place
  count = length-take-le place text (omega arith)

  pub decimal_more : decimal_value (take (place + 1) text) ≡ decimal_value (take place text) * 10 + (here - 48)
  decimal_more = ap decimal_value front ∙ decimal-push (take place text) here

  pub small_more : is_small (take place text) ≡ true → is_ascii_digit here ≡ true → (place ≡ 7 → ⊥) → decimal_value (take place text) * 10 + (here - 48) ≤ 1000000 → is_small (take (place + 1) text) ≡ true
  small_more small digit few value =
      let facts = small_parts (take place text) small in
      let e = decimal-push (take place text) here in
      let longer = length-append (take place text) (here ∷ []) in
      rw front (small_from (take place text ++ here ∷ []) (list_all-append is_ascii_digit (take place text) (here ∷ []) ∙ and_from (list_all is_ascii_digit (take place text)) (is_ascii_digit here && true) facts.0 (and_from (is_ascii_digit here) true digit refl)) (let c = count in omega arith) (omega arith))

  -- a digit too many, another byte, or a number too large
  pub number_full : place ≡ 7 → is_number (take (place + 1) text) ≡ false
  number_full e = false_from_ne_true (is_number (take (place + 1) text)) (λ n.
      let facts = small_parts (take (place + 1) text) (and_parts (not (is_empty (take (place + 1) text))) (is_small (take (place + 1) text)) n).1 in
      let c : length (take (place + 1) text) ≡ place + 1 = length-take-le (place + 1) text (omega arith) in
      absurd (omega (arith, facts.1)))

  pub number_no_digit : is_ascii_digit here ≡ false → is_number (take (place + 1) text) ≡ false
  number_no_digit h = false_from_ne_true (is_number (take (place + 1) text)) (λ n.
      let facts = small_parts (take (place + 1) text) (and_parts (not (is_empty (take (place + 1) text))) (is_small (take (place + 1) text)) n).1 in
      let all : list_all is_ascii_digit (take place text ++ here ∷ []) ≡ true = rw front at facts.0 in
      let back = and_parts (list_all is_ascii_digit (take place text)) (is_ascii_digit here && true) (sym (list_all-append is_ascii_digit (take place text) (here ∷ [])) ∙ all) in
      both_ways (is_ascii_digit here) h (and_parts (is_ascii_digit here) true back.1).0)

  pub number_large : 1000000 < decimal_value (take place text) * 10 + (here - 48) → is_number (take (place + 1) text) ≡ false
  number_large h = false_from_ne_true (is_number (take (place + 1) text)) (λ n.
      let facts = small_parts (take (place + 1) text) (and_parts (not (is_empty (take (place + 1) text))) (is_small (take (place + 1) text)) n).1 in
      let e = decimal_more in
      absurd (omega (arith, facts.2)))

  pub number_before : is_small (take place text) ≡ true → 0 < place → is_number (take place text) ≡ true
  number_before small h = and_from (not (is_empty (take place text))) (is_small (take place text)) (filled (take place text) (let c = count in omega arith)) small

-- The whole text.
pub none_when_none : {A : Type 0} (f : List ℕ → Option A) (text left : List ℕ) → Reads f text left None → f text ≡ None
none_when_none f text [] n = ap f (n.split ∙ append-nil n.bytes) ∙ sym n.is
none_when_none f text (b ∷ left) n = ap f n.split ∙ n.stop left

pub none_when_left : {A : Type 0} (f : List ℕ → Option A) (text left : List ℕ) (value : Option A) → Reads f text left value → 0 < length left → f text ≡ None
none_when_left f text [] value n h = absurd (omega arith)
none_when_left f text (b ∷ left) value n h = ap f n.split ∙ n.stop left

pub some_when_all : {A : Type 0} (f : List ℕ → Option A) (text left : List ℕ) (value : A) → Reads f text left (Some value) → length left ≡ 0 → f text ≡ Some value
some_when_all f text [] value n h = ap f (n.split ∙ append-nil n.bytes) ∙ sym n.is
some_when_all f text (b ∷ left) value n h = absurd (omega arith)

pub longest_start : {A : Type 0} (f : List ℕ → Option A) (text left : List ℕ) (value : Option A) (at : ℕ) → Reads f text left value → at ≡ length text - length left → IsLongestStart f text at
longest_start {A} f text left value at n e =
    let counts = length-append n.bytes left in
    let whole : length text ≡ length n.bytes + length left = ap length n.split ∙ counts in
    let here : at ≡ length n.bytes = omega arith in
    record {
      within = omega arith;
      start = (n.start.0, rw (here, n.split) (ap is_some (ap f (ap (λ front. front ++ n.start.0) (take-append_seam n.bytes left))) ∙ n.start.1));
      longest = λ k le start. longest left n.split n.stop here k le start;
    }
  where
    longest : (left : List ℕ) → text ≡ n.bytes ++ left → IsStop f n.bytes left → at ≡ length n.bytes → (k : ℕ) → k ≤ length text → IsStart f (take k text) → k ≤ at
    longest [] split stop here k le start = let whole : length text ≡ length n.bytes = ap length (split ∙ append-nil n.bytes) in omega arith
    longest (b ∷ bs) split stop here k le start = elim (cases_lt at k) as (λ _. k ≤ at) [
      | inr ge ↦ ge
      | inl lt ↦
          let apart : k ≡ length n.bytes + suc (k - at - 1) = omega arith in
          let front : take k text ≡ n.bytes ++ b ∷ take (k - at - 1) bs = ap (take k) split ∙ ap (λ m. take m (n.bytes ++ b ∷ bs)) apart ∙ take-append-add n.bytes (b ∷ bs) (suc (k - at - 1)) in
          let some : is_some (f ((n.bytes ++ b ∷ take (k - at - 1) bs) ++ start.0)) ≡ true = ap is_some (ap f (ap (λ front. front ++ start.0) (sym front))) ∙ start.1 in
          let none : f ((n.bytes ++ b ∷ take (k - at - 1) bs) ++ start.0) ≡ None = ap f (append_assoc n.bytes (b ∷ take (k - at - 1) bs) start.0) ∙ stop (take (k - at - 1) bs ++ start.0) in
          absurd (nothing (f ((n.bytes ++ b ∷ take (k - at - 1) bs) ++ start.0)) none some)
    ]
      where
        nothing : (o : Option A) → o ≡ None → is_some o ≡ true → ⊥
        nothing None e h = absurd (cc)
        nothing (Some x) e h = absurd (cc)

-- a number, by its length
pub number_run : (text : List ℕ) (count : ℕ) → count ≤ length text → is_number (take count text) ≡ true → (count < length text → is_number (take (count + 1) text) ≡ false) → IsNumberRun text (take count text) (drop count text)
number_run text count within number ends = record {
  split = sym (take-append-drop count text);
  number = number;
  ends = λ b bs e.
      let left : length (drop count text) ≡ length text - count = length-drop count text in
      let some : length (drop count text) ≡ suc (length bs) = ap length e in
      let lt : count < length text = omega arith in
      let next : b ≡ get_or text count 0 = ap (λ (rest : List ℕ). get_or rest 0 0) (sym e) ∙ get_or-drop count text 0 0 ∙ ap (λ k. get_or text k 0) (add-zero count) in
      ap is_number (ap (λ x. take count text ++ x ∷ []) next ∙ sym (take_more text count 0 lt)) ∙ ends lt;
}

-- What a call answers, carried on.
pub or_fault : {P Q : Type 0} (stop : Stop) → (P → Q) → OrFault stop P → OrFault stop Q
or_fault Fault f h = f h
or_fault NoMemory f h = tt

-- Lists of parts.
module _ {A : Type 0} (c most : ℕ) (f : List ℕ → Option A) (none : Lacks c f) (whole left : List ℕ) (done : List A) (p : IsPartway c most f whole left done) where
  pub part_fault : (rest : List ℕ) → Reads f left rest None → Reads (listed c most f) whole rest None
  part_fault rest n = partway-fault c f none most whole left rest done p n

  pub part_full : (rest : List ℕ) (item : A) (all : List A) → Reads f left rest (Some item) → all ≡ done ++ item ∷ [] → length all ≡ most → Reads (listed c most f) whole rest (Some all)
  part_full rest item all n e full =
      let count : length (done ++ item ∷ []) ≡ length done + 1 = length-append done (item ∷ []) in
      let same : length all ≡ length (done ++ item ∷ []) = ap length e in
      rw e (partway-end c f none most whole left rest done item p n (end rest (omega arith)))
    where
      end : (rest : List ℕ) → most - length done - 1 ≡ 0 → IsEnd c f none (most - length done - 1) rest
      end [] z = tt
      end (b ∷ bs) z = inr z

  pub part_last : (mid rest : List ℕ) (item : A) (all : List A) → Reads f left mid (Some item) → all ≡ done ++ item ∷ [] → rest ≡ mid → begins (is_byte c) mid ≡ false → Reads (listed c most f) whole rest (Some all)
  part_last mid rest item all n e same h = rw (e, same) (partway-end c f none most whole left mid done item p n (end mid h))
    where
      end : (rest : List ℕ) → begins (is_byte c) rest ≡ false → IsEnd c f none (most - length done - 1) rest
      end [] h = tt
      end (b ∷ bs) h = inl (eqb-false b c h)

  pub part_more : (mid rest : List ℕ) (item : A) (all : List A) → Reads f left mid (Some item) → all ≡ done ++ item ∷ [] → mid ≡ c ∷ rest → (length all ≡ most → ⊥) → IsPartway c most f whole rest all
  part_more mid rest item all n e at fewer =
      let count : length (done ++ item ∷ []) ≡ length done + 1 = length-append done (item ∷ []) in
      let same : length all ≡ length (done ++ item ∷ []) = ap length e in
      let P : List ℕ → Type 0 = λ text. Reads f left text (Some item) in
      let room = p.fewer in
      rw e (partway-more c f none most whole left rest done item p (subst P at n) (more (omega arith) (λ full. fewer (same ∙ count ∙ full))))
    where
      more : length done + 1 ≤ most → (length done + 1 ≡ most → ⊥) → length done + 1 < most
      more le ne = elim (eq-or-lt_of_le {n = length done + 1} {m = most} le) as (λ _. length done + 1 < most) [ inl e ↦ absurd (ne e) | inr lt ↦ lt ]

-- Sums in brackets.
pub closed_open_end : (r mid left : List ℕ) (terms : List Term) → Reads sum_of r mid (Some terms) → left ≡ mid → begins (is_byte 41) mid ≡ false → Reads closed_of r left None
closed_open_end r mid left terms n same h = rw same (closed_unclosed r mid terms n h)

pub closed_whole : (r mid y s z : List ℕ) (terms : List Term) → Reads sum_of r mid (Some terms) → mid ≡ 41 ∷ y → IsRun (is_byte 32) y s z → Reads closed_of r z (Some terms)
closed_whole r mid y s z terms n at spaces = let P : List ℕ → Type 0 = λ text. Reads sum_of r text (Some terms) in closed_read r y s z terms (subst P at n) spaces

-- answers with spaces before them
pub reads_or_after : {A : Type 0} (f : List ℕ → Option A) (whole s r left : List ℕ) (result : Result A Stop) → IsRun (is_byte 32) whole s r → ((s text : List ℕ) → blank s ≡ true → f (s ++ text) ≡ f text) → ReadsOr f r left result → ReadsOr f whole left result
reads_or_after f whole s r left (Ok value) run same n = reads_after f whole s r left (Some value) run same n
reads_or_after f whole s r left (Err stop) run same n = or_fault stop (reads_after f whole s r left None run same) n
