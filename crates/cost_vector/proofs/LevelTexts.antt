-- How far sums and levels can be read.
use Rattle.std.proofs.Common.{◌≡◌, ℕ, suc, List, [], ◌∷◌, ◌++◌, length, Bool, true, false, ◌&&◌, cond, nat_eq, nat_le, Option, Some, None, is_some, refl, sym, ap, ◌∙◌, inl, inr, ◌⊎◌, append_assoc, append-nil, arith}
use Rattle.std.specs.List.{list_all}
use Rattle.std.specs.Option.{option_map}
use Rattle.std.proofs.lemmas.Bool.{and_from, and_parts, eqb-true, eqb-false, ne_eqb, cases_Bool, both_ways, false_from_ne_true}
use Rattle.cost_vector.specs.declared.cost_spec.Term.{Term}
use Rattle.cost_vector.specs.Grammar.{parts, words, is_name_byte, is_max, is_name, term, only, if_test, word_of, name_of, term_of, all_of, join, listed, sum_of, has_no_word, is_max_alone, closed_in, closed_of, level, level_in, level_of}
use Rattle.cost_vector.specs.Reading.{IsStop, Reads, LeadsTo, IsRun, begins, is_byte, begins_with_max}
use Rattle.cost_vector.proofs.Parts.{lacks, cut, cut_twice, parts-onto, parts-one, parts-at}
use Rattle.cost_vector.proofs.Starts.{Lacks, lacks-append, lacks-start, is_some-option_map, listed-one, listed-none, listed-stop}
use Rattle.cost_vector.proofs.Words.{blank, words-blank, words-none, words-more, words-one, words-at, word_of-blank, word_of-one, word_of-stop, lacks-from, lacks-parts, lacks-words, lacks-word_of}
use Rattle.cost_vector.proofs.TermTexts.{term_of-blank, term_of-lacks, term_of-no_digit, not_name_with}

-- Lists of parts.
pub listed-blank : {A : Type 0} (c most : ℕ) (f : List ℕ → Option A) → is_byte 32 c ≡ false → ((s text : List ℕ) → blank s ≡ true → f (s ++ text) ≡ f text) → (s text : List ℕ) → blank s ≡ true → listed c most f (s ++ text) ≡ listed c most f text
listed-blank c most f apart same s text h =
    let rest = cut c text in
    let at = parts-onto c s text rest.first rest.others (lacks-from (is_byte 32) c s apart h) rest.is in
    rw (at, rest.is, same s rest.first h) refl

pub listed-lacks : {A : Type 0} (c d most : ℕ) (f : List ℕ → Option A) → nat_eq c d ≡ false → Lacks d f → Lacks d (listed c most f)
listed-lacks {A} c d most f apart none text h = lacks-parts c d text apart (all (parts c text) (there (nat_le (length (parts c text)) most) h))
  where
    there : (t : Bool) → is_some (cond {A = Option (List A)} t (all_of f (parts c text)) None) ≡ true → is_some (all_of f (parts c text)) ≡ true
    there true h = h
    there false h = absurd (cc)

    both : (x : Option A) (xs : Option (List A)) → is_some (join x xs) ≡ true → (is_some x ≡ true) × (is_some xs ≡ true)
    both None None h = absurd (cc)
    both None (Some xs) h = absurd (cc)
    both (Some x) None h = absurd (cc)
    both (Some x) (Some xs) h = (refl, refl)

    all : (ps : List (List ℕ)) → is_some (all_of f ps) ≡ true → list_all (lacks d) ps ≡ true
    all [] h = refl
    all (p ∷ ps) h = let parts_some = both (f p) (all_of f ps) h in and_from (lacks d p) (list_all (lacks d) ps) (none p parts_some.0) (all ps parts_some.1)

-- Sums.
pub sum_of-blank : (s text : List ℕ) → blank s ≡ true → sum_of (s ++ text) ≡ sum_of text
sum_of-blank s text h = listed-blank 43 16 term_of refl term_of-blank s text h

pub term_of-lacks_plus : Lacks 43 term_of
term_of-lacks_plus text h = term_of-lacks 43 refl refl refl refl text h

pub sum_of-lacks_comma : Lacks 44 sum_of
sum_of-lacks_comma text h = listed-lacks 43 44 16 term_of refl (λ t k. term_of-lacks 44 refl refl refl refl t k) text h

pub sum_of-lacks_open : Lacks 40 sum_of
sum_of-lacks_open text h = listed-lacks 43 40 16 term_of refl (λ t k. term_of-lacks 40 refl refl refl refl t k) text h

pub sum_of-lacks_close : Lacks 41 sum_of
sum_of-lacks_close text h = listed-lacks 43 41 16 term_of refl (λ t k. term_of-lacks 41 refl refl refl refl t k) text h

-- A sum and a closing bracket.
no_word_lacks : (d : ℕ) → nat_eq 32 d ≡ false → (text : List ℕ) → has_no_word text ≡ true → lacks d text ≡ true
no_word_lacks d apart text h = lacks-words d text apart (all (words text) h)
  where
    all : (ws : List (List ℕ)) → nat_eq (length ws) 0 ≡ true → list_all (lacks d) ws ≡ true
    all [] h = refl
    all (w ∷ ws) h = absurd (omega (arith, eqb-true (length (w ∷ ws)) 0 h))

blank_has_no_word : (s : List ℕ) → blank s ≡ true → has_no_word s ≡ true
blank_has_no_word s h = rw (words-none s h) refl

-- spaces, and then another byte
word_there : (s : List ℕ) (b : ℕ) (text : List ℕ) → blank s ≡ true → (b ≡ 32 → ⊥) → has_no_word (s ++ b ∷ text) ≡ false
word_there s b text h apart =
    let first = words-more [] b text refl apart in
    rw (words-blank s (b ∷ text) h, first.is) (ne_eqb (suc (length first.others)) 0 (λ e. omega arith))

closed_in-two : (sum behind : List ℕ) → has_no_word behind ≡ true → closed_in (sum ∷ behind ∷ []) ≡ sum_of sum
closed_in-two sum behind h = rw h refl

closed_some : (text : List ℕ) → is_some (closed_of text) ≡ true → (sum behind : List ℕ) → parts 41 text ≡ sum ∷ behind ∷ [] → (has_no_word behind ≡ true) × (is_some (sum_of sum) ≡ true)
closed_some text h sum behind e = by_test (has_no_word behind) refl (rw e at h)
  where
    by_test : (t : Bool) → has_no_word behind ≡ t → is_some (cond t (sum_of sum) None) ≡ true → (has_no_word behind ≡ true) × (is_some (sum_of sum) ≡ true)
    by_test true k h = (k, h)
    by_test false k h = absurd (cc)

pub closed_of-lacks : (d : ℕ) → nat_eq 32 d ≡ false → nat_eq 41 d ≡ false → Lacks d sum_of → Lacks d closed_of
closed_of-lacks d no_space no_close none text h = lacks-parts 41 d text no_close (all (parts 41 text) refl)
  where
    all : (ps : List (List ℕ)) → parts 41 text ≡ ps → list_all (lacks d) ps ≡ true
    all [] e = refl
    all (x ∷ []) e = absurd (let nothing : is_some (closed_in (x ∷ [])) ≡ true = rw e at h in cc)
    all (x ∷ y ∷ []) e = let both = closed_some text h x y e in and_from (lacks d x) (lacks d y && true) (none x both.1) (and_from (lacks d y) true (no_word_lacks d no_space y both.0) refl)
    all (x ∷ y ∷ z ∷ ps) e = absurd (let nothing : is_some (closed_in (x ∷ y ∷ z ∷ ps)) ≡ true = rw e at h in cc)

closed_none : (sum : List ℕ) (others : List (List ℕ)) → sum_of sum ≡ None → closed_in (sum ∷ others) ≡ None
closed_none sum [] e = refl
closed_none sum (x ∷ []) e = ap (λ o. cond (has_no_word x) o None) e ∙ either (has_no_word x)
  where
    either : (t : Bool) → cond {A = Option (List Term)} t None None ≡ None
    either true = refl
    either false = refl
closed_none sum (x ∷ y ∷ others) e = refl

-- a byte that no sum goes on with
closed_stop : (bytes : List ℕ) (b : ℕ) (rest : List ℕ) → lacks 41 bytes ≡ true → (b ≡ 41 → ⊥) → ((rest : List ℕ) → sum_of (bytes ++ b ∷ rest) ≡ None) → closed_of (bytes ++ b ∷ rest) ≡ None
closed_stop bytes b rest free apart stop =
    let rest_cut = cut 41 rest in
    let front : lacks 41 (bytes ++ b ∷ []) ≡ true = lacks-append 41 bytes (b ∷ []) free (rw (ne_eqb b 41 apart) refl) in
    let at : parts 41 (bytes ++ b ∷ rest) ≡ (bytes ++ b ∷ rest_cut.first) ∷ rest_cut.others = simp append_assoc at (parts-onto 41 (bytes ++ b ∷ []) rest rest_cut.first rest_cut.others front rest_cut.is) in
    ap closed_in at ∙ closed_none (bytes ++ b ∷ rest_cut.first) rest_cut.others (stop rest_cut.first)

-- the sum is read, and is none
pub closed_fault : (r left : List ℕ) → Reads sum_of r left None → Reads closed_of r left None
closed_fault r left n =
    let free = lacks-start 41 sum_of n.bytes sum_of-lacks_close n.start in
    let whole = sum_of-lacks_close (n.bytes ++ n.start.0) n.start.1 in
    record {
      bytes = n.bytes;
      split = n.split;
      start = (n.start.0 ++ 41 ∷ [], ap is_some (ap closed_of (sym (append_assoc n.bytes n.start.0 (41 ∷ []))) ∙ ap closed_in (parts-at 41 (n.bytes ++ n.start.0) [] whole)) ∙ n.start.1);
      stop = stops left free n.stop;
      is = sym (ap closed_in (parts-one 41 n.bytes free));
    }
  where
    stops : (left : List ℕ) → lacks 41 n.bytes ≡ true → IsStop sum_of n.bytes left → IsStop closed_of n.bytes left
    stops [] free stop = tt
    stops (b ∷ bs) free stop = λ rest. elim (cases_Bool (nat_eq b 41)) as (λ _. closed_of (n.bytes ++ b ∷ rest) ≡ None) [
      | inl same ↦ let e : b ≡ 41 = eqb-true b 41 same in rw e (ap closed_in (parts-at 41 n.bytes rest free) ∙ closed_none n.bytes (parts 41 rest) (sym n.is))
      | inr other ↦ closed_stop n.bytes b rest free (eqb-false b 41 other) stop
    ]

-- the sum is read, and no closing bracket is behind it
pub closed_unclosed : (r left : List ℕ) (terms : List Term) → Reads sum_of r left (Some terms) → begins (is_byte 41) left ≡ false → Reads closed_of r left None
closed_unclosed r left terms n h =
    let free = lacks-start 41 sum_of n.bytes sum_of-lacks_close n.start in
    record {
      bytes = n.bytes;
      split = n.split;
      start = (41 ∷ [], ap is_some (ap closed_in (parts-at 41 n.bytes [] free) ∙ sym n.is));
      stop = stops left free h n.stop;
      is = sym (ap closed_in (parts-one 41 n.bytes free));
    }
  where
    stops : (left : List ℕ) → lacks 41 n.bytes ≡ true → begins (is_byte 41) left ≡ false → IsStop sum_of n.bytes left → IsStop closed_of n.bytes left
    stops [] free h stop = tt
    stops (b ∷ bs) free h stop = λ rest. closed_stop n.bytes b rest free (eqb-false b 41 h) stop

-- the sum, the closing bracket and spaces are read
pub closed_read : (r y s z : List ℕ) (terms : List Term) → Reads sum_of r (41 ∷ y) (Some terms) → IsRun (is_byte 32) y s z → Reads closed_of r z (Some terms)
closed_read r y s z terms n spaces =
    let free = lacks-start 41 sum_of n.bytes sum_of-lacks_close n.start in
    let no_close : lacks 41 s ≡ true = lacks-from (is_byte 32) 41 s refl spaces.all in
    let value : closed_of (n.bytes ++ 41 ∷ s) ≡ Some terms = ap closed_in (parts-at 41 n.bytes s free ∙ ap (λ ps. n.bytes ∷ ps) (parts-one 41 s no_close)) ∙ closed_in-two n.bytes s (blank_has_no_word s spaces.all) ∙ sym n.is in
    record {
      bytes = n.bytes ++ 41 ∷ s;
      split = n.split ∙ ap (λ text. n.bytes ++ 41 ∷ text) spaces.split ∙ sym (append_assoc n.bytes (41 ∷ s) z);
      start = ([], ap is_some (ap closed_of (append-nil (n.bytes ++ 41 ∷ s)) ∙ value));
      stop = stops z free spaces.ends;
      is = sym value;
    }
  where
    stops : (z : List ℕ) → lacks 41 n.bytes ≡ true → begins (is_byte 32) z ≡ false → IsStop closed_of (n.bytes ++ 41 ∷ s) z
    stops [] free h = tt
    stops (b ∷ z) free h = λ rest. ap closed_of (append_assoc n.bytes (41 ∷ s) (b ∷ rest)) ∙ ap closed_in (parts-at 41 n.bytes (s ++ b ∷ rest) free) ∙ elim (cases_Bool (lacks 41 (s ++ b ∷ rest))) as (λ _. closed_in (n.bytes ∷ parts 41 (s ++ b ∷ rest)) ≡ None) [
      | inl alone ↦ let there = word_there s b rest spaces.all (eqb-false b 32 h) in ap (λ ps. closed_in (n.bytes ∷ ps)) (parts-one 41 (s ++ b ∷ rest) alone) ∙ rw there refl
      | inr more ↦ let two = cut_twice 41 (s ++ b ∷ rest) more in ap (λ ps. closed_in (n.bytes ∷ ps)) two.is
    ]

-- Levels.
abbrev pub max_word : List ℕ
max_word = 109 ∷ 97 ∷ 120 ∷ []

pub level_of-blank : (s text : List ℕ) → blank s ≡ true → level_of (s ++ text) ≡ level_of text
level_of-blank s text h =
    let rest = cut 40 text in
    let at = parts-onto 40 s text rest.first rest.others (lacks-from (is_byte 32) 40 s refl h) rest.is in
    ap level_in at ∙ same rest.first rest.others ∙ sym (ap level_in rest.is)
  where
    same : (first : List ℕ) (others : List (List ℕ)) → level_in ((s ++ first) ∷ others) ≡ level_in (first ∷ others)
    same first [] = ap (option_map (level false)) (sum_of-blank s first h)
    same first (x ∷ []) = ap (λ o. cond (is_some o) (option_map (level true) (closed_of x)) None) (word_of-blank is_max s first h)
    same first (x ∷ y ∷ others) = refl

max_alone : (s : List ℕ) → blank s ≡ true → is_max_alone (max_word ++ s) ≡ true
max_alone s h = ap is_some (word_of-one is_max 109 (97 ∷ 120 ∷ []) s refl h)

no_level : (o : Option (List Term)) → o ≡ None → option_map (level true) o ≡ None
no_level o e = ap (option_map (level true)) e

-- behind `max` and an opening bracket
pub level_of-open : (s text : List ℕ) → blank s ≡ true → level_of ((max_word ++ s) ++ 40 ∷ text) ≡ option_map (level true) (closed_of text)
level_of-open s text h =
    let free : lacks 40 (max_word ++ s) ≡ true = lacks-from (is_byte 32) 40 s refl h in
    ap level_in (parts-at 40 (max_word ++ s) text free) ∙ elim (cases_Bool (lacks 40 text)) as (λ _. level_in ((max_word ++ s) ∷ parts 40 text) ≡ option_map (level true) (closed_of text)) [
      | inl alone ↦ ap (λ ps. level_in ((max_word ++ s) ∷ ps)) (parts-one 40 text alone) ∙ rw (max_alone s h) refl
      | inr more ↦
          let two = cut_twice 40 text more in
          ap (λ ps. level_in ((max_word ++ s) ∷ ps)) two.is ∙ sym (ap (option_map (level true)) (nothing (closed_of text) (λ some. both_ways (lacks 40 text) more (closed_of-lacks 40 refl refl sum_of-lacks_open text some))))
    ]
  where
    nothing : (o : Option (List Term)) → (is_some o ≡ true → ⊥) → o ≡ None
    nothing None h = refl
    nothing (Some x) h = absurd (h refl)

-- the word `max` alone is no name, so it begins no sum
max_no_term : (s : List ℕ) → blank s ≡ true → term_of (max_word ++ s) ≡ None
max_no_term s h =
    let word : name_of (max_word ++ s) ≡ None = word_of-one is_name 109 (97 ∷ 120 ∷ []) s refl h in
    term_of-no_digit 109 (97 ∷ 120 ∷ s) refl (λ e. absurd (cc)) ∙ ap (option_map (term 1)) word

max_no_term_with : (s : List ℕ) (b : ℕ) (rest : List ℕ) → blank s ≡ true → (b ≡ 32 → ⊥) → (s ≡ [] → is_name_byte b ≡ false) → term_of ((max_word ++ s) ++ b ∷ rest) ≡ None
max_no_term_with s b rest h apart ends =
    let word : name_of (max_word ++ (s ++ b ∷ rest)) ≡ None = word_of-stop is_name 109 (97 ∷ 120 ∷ []) s b rest refl h apart (λ more none. not_name_with max_word b more (ends none)) in
    ap term_of (append_assoc max_word s (b ∷ rest)) ∙ term_of-no_digit 109 (97 ∷ 120 ∷ (s ++ b ∷ rest)) refl (λ e. absurd (cc)) ∙ ap (option_map (term 1)) word

max_lacks_plus : (s : List ℕ) → blank s ≡ true → lacks 43 (max_word ++ s) ≡ true
max_lacks_plus s h = lacks-from (is_byte 32) 43 s refl h

max_no_sum : (s : List ℕ) → blank s ≡ true → sum_of (max_word ++ s) ≡ None
max_no_sum s h = listed-one 43 term_of 15 (max_word ++ s) (max_lacks_plus s h) ∙ ap (option_map (λ item. item ∷ [])) (max_no_term s h)

max_no_sum_with : (s : List ℕ) (b : ℕ) (rest : List ℕ) → blank s ≡ true → (b ≡ 32 → ⊥) → (s ≡ [] → is_name_byte b ≡ false) → sum_of ((max_word ++ s) ++ b ∷ rest) ≡ None
max_no_sum_with s b rest h apart ends = elim (cases_Bool (nat_eq b 43)) as (λ _. sum_of ((max_word ++ s) ++ b ∷ rest) ≡ None) [
  | inl same ↦ let e : b ≡ 43 = eqb-true b 43 same in rw e (listed-none 43 term_of 16 (max_word ++ s) rest (max_lacks_plus s h) (max_no_term s h))
  | inr other ↦ listed-stop 43 term_of 16 (max_word ++ s) b (max_lacks_plus s h) (eqb-false b 43 other) (λ more. max_no_term_with s b more h apart ends) rest
]

-- `max` and no opening bracket
pub level_no_open : (r q s u : List ℕ) → r ≡ max_word ++ q → begins is_name_byte q ≡ false → IsRun (is_byte 32) q s u → begins (is_byte 40) u ≡ false → Reads level_of r u None
level_no_open r q s u split ends spaces h =
    let free : lacks 40 (max_word ++ s) ≡ true = lacks-from (is_byte 32) 40 s refl spaces.all in
    record {
      bytes = max_word ++ s;
      split = split ∙ ap (λ text. max_word ++ text) spaces.split;
      start = (40 ∷ 97 ∷ 41 ∷ [], ap is_some (level_of-open s (97 ∷ 41 ∷ []) spaces.all));
      stop = stops u free h spaces.ends spaces.split;
      is = sym (ap level_in (parts-one 40 (max_word ++ s) free) ∙ ap (option_map (level false)) (max_no_sum s spaces.all));
    }
  where
    stops : (u : List ℕ) → lacks 40 (max_word ++ s) ≡ true → begins (is_byte 40) u ≡ false → begins (is_byte 32) u ≡ false → q ≡ s ++ u → IsStop level_of (max_word ++ s) u
    stops [] free h k e = tt
    stops (b ∷ u) free h k e = λ rest.
        let rest_cut = cut 40 rest in
        let front : lacks 40 ((max_word ++ s) ++ b ∷ []) ≡ true = lacks-append 40 (max_word ++ s) (b ∷ []) free (rw h refl) in
        let at : parts 40 ((max_word ++ s) ++ b ∷ rest) ≡ ((max_word ++ s) ++ b ∷ rest_cut.first) ∷ rest_cut.others = ap (parts 40) (sym (append_assoc (max_word ++ s) (b ∷ []) rest)) ∙ parts-onto 40 ((max_word ++ s) ++ b ∷ []) rest rest_cut.first rest_cut.others front rest_cut.is ∙ ap (λ first. first ∷ rest_cut.others) (append_assoc (max_word ++ s) (b ∷ []) rest_cut.first) in
        ap level_in at ∙ nothing rest_cut.first rest_cut.others
      where
        apart : b ≡ 32 → ⊥
        apart = eqb-false b 32 k

        not_in_name : s ≡ [] → is_name_byte b ≡ false
        not_in_name none = rw (e, none) at ends

        not_max : (first : List ℕ) → is_max_alone ((max_word ++ s) ++ b ∷ first) ≡ false
        not_max first = ap is_some (ap (word_of is_max) (append_assoc max_word s (b ∷ first)) ∙ word_of-stop is_max 109 (97 ∷ 120 ∷ []) s b first refl spaces.all apart (λ more none. refl))

        nothing : (first : List ℕ) (others : List (List ℕ)) → level_in (((max_word ++ s) ++ b ∷ first) ∷ others) ≡ None
        nothing first [] = ap (option_map (level false)) (max_no_sum_with s b first spaces.all apart not_in_name)
        nothing first (x ∷ []) = rw (not_max first) refl
        nothing first (x ∷ y ∷ others) = refl

-- `max` and an opening bracket
pub level_open : (r q s v : List ℕ) → r ≡ max_word ++ q → IsRun (is_byte 32) q s (40 ∷ v) → LeadsTo level_of closed_of (level true) r v
level_open r q s v split spaces = record {
  bytes = (max_word ++ s) ++ 40 ∷ [];
  split = split ∙ ap (λ text. max_word ++ text) spaces.split ∙ sym (append_assoc (max_word ++ s) (40 ∷ []) v);
  goes_on = λ more. ap level_of (append_assoc (max_word ++ s) (40 ∷ []) more) ∙ level_of-open s more spaces.all;
}

-- A text whose only word is `max`.
is_max_is : (word : List ℕ) → is_max word ≡ true → word ≡ max_word
is_max_is [] h = absurd (cc)
is_max_is (a ∷ []) h = absurd (cc)
is_max_is (a ∷ b ∷ []) h = absurd (cc)
is_max_is (a ∷ b ∷ c ∷ []) h =
    let both = and_parts (nat_eq a 109 && nat_eq b 97) (nat_eq c 120) h in
    let first = and_parts (nat_eq a 109) (nat_eq b 97) both.0 in
    rw (eqb-true a 109 first.0, eqb-true b 97 first.1, eqb-true c 120 both.1) refl
is_max_is (a ∷ b ∷ c ∷ d ∷ word) h = absurd (cc)

blank_from : (text : List ℕ) → words text ≡ [] → blank text ≡ true
blank_from [] h = refl
blank_from (b ∷ text) h = elim (cases_Bool (nat_eq b 32)) as (λ _. blank (b ∷ text) ≡ true) [
  | inl same ↦ let e : b ≡ 32 = eqb-true b 32 same in let rest : words text ≡ [] = rw same at h in and_from (nat_eq b 32) (blank text) same (blank_from text rest)
  | inr other ↦ let first = words-more [] b text refl (eqb-false b 32 other) in absurd (let e : (b ∷ first.more) ∷ first.others ≡ [] = sym first.is ∙ h in cc)
]

-- the bytes before the first c, and those behind it
record Found (c : ℕ) (text : List ℕ) : Type 0 where
  before : List ℕ
  after : List ℕ
  split : text ≡ before ++ c ∷ after
  free : lacks c before ≡ true

found : (c : ℕ) (text : List ℕ) → (lacks c text ≡ true) ⊎ Found c text
found c [] = inl refl
found c (b ∷ text) = elim (cases_Bool (nat_eq b c)) as (λ _. (lacks c (b ∷ text) ≡ true) ⊎ Found c (b ∷ text)) [
  | inl same ↦ inr (record { before = []; after = text; split = ap (λ x. x ∷ text) (eqb-true b c same); free = refl })
  | inr other ↦ elim (found c text) as (λ _. (lacks c (b ∷ text) ≡ true) ⊎ Found c (b ∷ text)) [
    | inl none ↦ inl (rw other none)
    | inr there ↦ inr (record { before = b ∷ there.before; after = there.after; split = ap (λ rest. b ∷ rest) there.split; free = rw other there.free })
  ]
]

record MaxAlone (text : List ℕ) : Type 0 where
  spaces : List ℕ
  blanks : blank spaces ≡ true
  is : text ≡ max_word ++ spaces

max_alone_is : (text : List ℕ) → begins (is_byte 32) text ≡ false → is_max_alone text ≡ true → MaxAlone text
max_alone_is text h k = elim (found 32 text) as (λ _. MaxAlone text) [
  | inl none ↦ whole text none k
  | inr there ↦ front there.before there.after there.split there.free
]
  where
    passes : (word : List ℕ) (others : List (List ℕ)) → is_some (if_test is_max (only (word ∷ others))) ≡ true → (is_max word ≡ true) × (others ≡ [])
    passes word [] h = (by_test (is_max word) h, refl)
      where
        by_test : (t : Bool) → is_some (cond t (Some word) None) ≡ true → t ≡ true
        by_test true h = refl
        by_test false h = absurd (cc)
    passes word (x ∷ others) h = absurd (cc)

    whole : (text : List ℕ) → lacks 32 text ≡ true → is_max_alone text ≡ true → MaxAlone text
    whole [] none k = absurd (cc)
    whole (b ∷ text) none k =
        let one : words (b ∷ text) ≡ (b ∷ text) ∷ [] = ap words (sym (append-nil (b ∷ text))) ∙ words-one b text [] none refl in
        let test : is_some (if_test is_max (only ((b ∷ text) ∷ []))) ≡ true = sym (ap (λ ws. is_some (if_test is_max (only ws))) one) ∙ k in
        record { spaces = []; blanks = refl; is = is_max_is (b ∷ text) (passes (b ∷ text) [] test).0 }

    front : (before after : List ℕ) → text ≡ before ++ 32 ∷ after → lacks 32 before ≡ true → MaxAlone text
    front [] after e free = absurd (let space : begins (is_byte 32) (32 ∷ after) ≡ false = rw e at h in cc)
    front (b ∷ w) after e free =
        let ws : words text ≡ (b ∷ w) ∷ words after = ap words e ∙ words-at b w after free in
        let test : is_some (if_test is_max (only ((b ∷ w) ∷ words after))) ≡ true = sym (ap (λ ws. is_some (if_test is_max (only ws))) ws) ∙ k in
        let both = passes (b ∷ w) (words after) test in
        record { spaces = 32 ∷ after; blanks = blank_from after both.1; is = e ∙ ap (λ word. word ++ 32 ∷ after) (is_max_is (b ∷ w) both.0) }

-- Where a sum stops at b, the first part of a level is not `max` alone, unless the text began with `max`.
not_max_before : (bytes : List ℕ) (b : ℕ) (more bs s : List ℕ) → bytes ++ b ∷ more ≡ max_word ++ s → blank s ≡ true → ((rest : List ℕ) → sum_of (bytes ++ b ∷ rest) ≡ None) → begins_with_max (bytes ++ b ∷ bs) ≡ false → ⊥
not_max_before [] b more bs s e h stop k = let eb : b ≡ 109 = cc in let none = stop (97 ∷ 120 ∷ 97 ∷ []) in absurd (let nothing : sum_of (109 ∷ 97 ∷ 120 ∷ 97 ∷ []) ≡ None = rw eb at none in cc)
not_max_before (x ∷ []) b more bs s e h stop k = let ex : x ≡ 109 = cc in let eb : b ≡ 97 = cc in let none = stop (120 ∷ 97 ∷ []) in absurd (let nothing : sum_of (109 ∷ 97 ∷ 120 ∷ 97 ∷ []) ≡ None = rw (ex, eb) at none in cc)
not_max_before (x ∷ y ∷ []) b more bs s e h stop k = let ex : x ≡ 109 = cc in let ey : y ≡ 97 = cc in let eb : b ≡ 120 = cc in let none = stop (97 ∷ []) in absurd (let nothing : sum_of (109 ∷ 97 ∷ 120 ∷ 97 ∷ []) ≡ None = rw (ex, ey, eb) at none in cc)
not_max_before (x ∷ y ∷ z ∷ []) b more bs [] e h stop k = absurd (cc)
not_max_before (x ∷ y ∷ z ∷ []) b more bs (c ∷ s) e h stop k =
    let both = and_parts (nat_eq c 32) (blank s) h in
    let ec : c ≡ 32 = eqb-true c 32 both.0 in
    let ex : x ≡ 109 = cc in let ey : y ≡ 97 = cc in let ez : z ≡ 120 = cc in let eb : b ≡ c = cc in
    absurd (let nothing : begins_with_max (109 ∷ 97 ∷ 120 ∷ 32 ∷ bs) ≡ false = rw (ex, ey, ez, eb, ec) at k in cc)
not_max_before (x ∷ y ∷ z ∷ t ∷ ts) b more bs [] e h stop k = absurd (cc)
not_max_before (x ∷ y ∷ z ∷ t ∷ ts) b more bs (c ∷ s) e h stop k =
    let both = and_parts (nat_eq c 32) (blank s) h in
    let ec : c ≡ 32 = eqb-true c 32 both.0 in
    let ex : x ≡ 109 = cc in let ey : y ≡ 97 = cc in let ez : z ≡ 120 = cc in let et : t ≡ c = cc in
    absurd (let nothing : begins_with_max (109 ∷ 97 ∷ 120 ∷ 32 ∷ (ts ++ b ∷ bs)) ≡ false = rw (ex, ey, ez, et, ec) at k in cc)

not_max_open : (bytes bs s : List ℕ) → bytes ≡ max_word ++ s → blank s ≡ true → begins_with_max (bytes ++ 40 ∷ bs) ≡ false → ⊥
not_max_open bytes bs [] e h k = absurd (let nothing : begins_with_max (max_word ++ 40 ∷ bs) ≡ false = rw e at k in cc)
not_max_open bytes bs (c ∷ s) e h k =
    let both = and_parts (nat_eq c 32) (blank s) h in
    let ec : c ≡ 32 = eqb-true c 32 both.0 in
    absurd (let nothing : begins_with_max (109 ∷ 97 ∷ 120 ∷ 32 ∷ (s ++ 40 ∷ bs)) ≡ false = rw (e, ec) at k in cc)

level_of-alone : (text : List ℕ) → lacks 40 text ≡ true → level_of text ≡ option_map (level false) (sum_of text)
level_of-alone text h = ap level_in (parts-one 40 text h)

-- A level that adds. The text begins neither with a space nor with the word `max`.
pub level_plain : (r left : List ℕ) (terms : Option (List Term)) → begins (is_byte 32) r ≡ false → begins_with_max r ≡ false → Reads sum_of r left terms → Reads level_of r left (option_map (level false) terms)
level_plain r left terms h k n =
    let free = lacks-start 40 sum_of n.bytes sum_of-lacks_open n.start in
    record {
      bytes = n.bytes;
      split = n.split;
      start = (n.start.0, ap is_some (level_of-alone (n.bytes ++ n.start.0) (sum_of-lacks_open (n.bytes ++ n.start.0) n.start.1)) ∙ is_some-option_map (level false) (sum_of (n.bytes ++ n.start.0)) ∙ n.start.1);
      stop = stops left n.split free n.stop;
      is = ap (option_map (level false)) n.is ∙ sym (level_of-alone n.bytes free);
    }
  where
    no_space : (bytes : List ℕ) (b : ℕ) (bs rest : List ℕ) → r ≡ bytes ++ b ∷ bs → begins (is_byte 32) (bytes ++ b ∷ rest) ≡ false
    no_space [] b bs rest e = rw e at h
    no_space (x ∷ bytes) b bs rest e = rw e at h

    front_no_space : (bytes bs : List ℕ) → r ≡ bytes ++ 40 ∷ bs → begins (is_byte 32) bytes ≡ false
    front_no_space [] bs e = refl
    front_no_space (x ∷ bytes) bs e = rw e at h

    stops : (left : List ℕ) → r ≡ n.bytes ++ left → lacks 40 n.bytes ≡ true → IsStop sum_of n.bytes left → IsStop level_of n.bytes left
    stops [] e free stop = tt
    stops (b ∷ bs) e free stop = λ rest. elim (cases_Bool (nat_eq b 40)) as (λ _. level_of (n.bytes ++ b ∷ rest) ≡ None) [
      | inl same ↦ let eb : b ≡ 40 = eqb-true b 40 same in opened rest eb
      | inr other ↦ not_opened rest (eqb-false b 40 other)
    ]
      where
        opened : (rest : List ℕ) → b ≡ 40 → level_of (n.bytes ++ b ∷ rest) ≡ None
        opened rest eb =
            let rest_cut = cut 40 rest in
            let not_max : is_max_alone n.bytes ≡ false = false_from_ne_true (is_max_alone n.bytes) (λ there. let max = max_alone_is n.bytes (front_no_space n.bytes bs (rw eb at e)) there in not_max_open n.bytes bs max.spaces max.is max.blanks (rw (e, eb) at k)) in
            rw eb (ap level_in (parts-at 40 n.bytes rest free ∙ ap (λ ps. n.bytes ∷ ps) rest_cut.is) ∙ nothing rest_cut.first rest_cut.others not_max)
          where
            nothing : (first : List ℕ) (others : List (List ℕ)) → is_max_alone n.bytes ≡ false → level_in (n.bytes ∷ first ∷ others) ≡ None
            nothing first [] none = rw none refl
            nothing first (x ∷ others) none = refl

        not_opened : (rest : List ℕ) → (b ≡ 40 → ⊥) → level_of (n.bytes ++ b ∷ rest) ≡ None
        not_opened rest apart =
            let rest_cut = cut 40 rest in
            let front : lacks 40 (n.bytes ++ b ∷ []) ≡ true = lacks-append 40 n.bytes (b ∷ []) free (rw (ne_eqb b 40 apart) refl) in
            let at : parts 40 (n.bytes ++ b ∷ rest) ≡ (n.bytes ++ b ∷ rest_cut.first) ∷ rest_cut.others = simp append_assoc at (parts-onto 40 (n.bytes ++ b ∷ []) rest rest_cut.first rest_cut.others front rest_cut.is) in
            let not_max : is_max_alone (n.bytes ++ b ∷ rest_cut.first) ≡ false = false_from_ne_true (is_max_alone (n.bytes ++ b ∷ rest_cut.first)) (λ there. let max = max_alone_is (n.bytes ++ b ∷ rest_cut.first) (no_space n.bytes b bs rest_cut.first e) there in not_max_before n.bytes b rest_cut.first bs max.spaces max.is max.blanks stop (rw e at k)) in
            ap level_in at ∙ nothing rest_cut.first rest_cut.others not_max
          where
            nothing : (first : List ℕ) (others : List (List ℕ)) → is_max_alone (n.bytes ++ b ∷ first) ≡ false → level_in ((n.bytes ++ b ∷ first) ∷ others) ≡ None
            nothing first [] none = ap (option_map (level false)) (stop first)
            nothing first (x ∷ []) none = rw none refl
            nothing first (x ∷ y ∷ others) none = refl

-- levels have no comma
pub level_of-lacks_comma : Lacks 44 level_of
level_of-lacks_comma text h = lacks-parts 40 44 text refl (all (parts 40 text) h)
  where
    some_level : (greatest : Bool) (o : Option (List Term)) → is_some (option_map (level greatest) o) ≡ true → is_some o ≡ true
    some_level greatest None h = absurd (cc)
    some_level greatest (Some x) h = refl

    by_test : (t : Bool) (o : Option (List Term)) → is_some (cond t (option_map (level true) o) None) ≡ true → (t ≡ true) × (is_some o ≡ true)
    by_test true o h = (refl, some_level true o h)
    by_test false o h = absurd (cc)

    max_lacks : (word : List ℕ) → is_max word ≡ true → lacks 44 word ≡ true
    max_lacks word h = rw (is_max_is word h) refl

    all : (ps : List (List ℕ)) → is_some (level_in ps) ≡ true → list_all (lacks 44) ps ≡ true
    all [] h = absurd (cc)
    all (x ∷ []) h = and_from (lacks 44 x) true (sum_of-lacks_comma x (some_level false (sum_of x) h)) refl
    all (x ∷ y ∷ []) h =
        let both = by_test (is_max_alone x) (closed_of y) h in
        and_from (lacks 44 x) (lacks 44 y && true) (lacks-word_of is_max 44 refl max_lacks x both.0) (and_from (lacks 44 y) true (closed_of-lacks 44 refl refl sum_of-lacks_comma y both.1) refl)
    all (x ∷ y ∷ z ∷ ps) h = absurd (cc)
