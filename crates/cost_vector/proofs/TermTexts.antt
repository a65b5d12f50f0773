-- How far names and terms can be read.
use Rattle.std.proofs.Common.{◌≡◌, ℕ, ◌+◌, ◌*◌, ◌-◌, ◌≤◌, List, [], ◌∷◌, ◌++◌, length, true, false, not, ◌&&◌, nat_eq, nat_le, Option, Some, None, is_some, refl, sym, ap, ◌∙◌, inl, inr, append_assoc, append-nil, arith}
use Rattle.std.specs.List.{list_all, fold}
use Rattle.std.specs.Option.{option_map}
use Rattle.std.proofs.lemmas.Bool.{and_from, and_parts, and_right as and_false_right, eqb-true, eqb-false, eq-eqb, leb-true, le-leb, lt-leb, cases_Bool, both_ways, not_from_true, not_from_false, false_from_ne_true}
use Rattle.std.proofs.lemmas.List.{length-append}
use Rattle.std.proofs.lemmas.List.Folds.{list_all-append}
use Rattle.std.proofs.lemmas.List.Sums.{fold-append}
use Rattle.std.specs.Char.{is_ascii_digit, is_ascii_lowercase}
use Rattle.cost_vector.specs.Grammar.{parts, is_empty, is_name_byte, is_max, is_name, is_small, is_number, decimal_value, word_of, name_of, number_of, term, times_name, term_in, term_of}
use Rattle.cost_vector.specs.Reading.{IsStop, Reads, LeadsTo, IsRun, IsNumberRun, begins, is_byte}
use Rattle.cost_vector.proofs.Parts.{lacks, cut, cut_twice, parts-onto, parts-one, parts-at}
use Rattle.cost_vector.proofs.Starts.{Lacks, lacks-append, is_some-option_map}
use Rattle.cost_vector.proofs.Words.{blank, word_of-blank, word_of-one, word_of-more, word_of-fails, word_of-stop, lacks-from, lacks-parts, lacks-word_of}

-- spaces in front change nothing
pub name_of-blank : (s text : List ℕ) → blank s ≡ true → name_of (s ++ text) ≡ name_of text
name_of-blank s text h = word_of-blank is_name s text h

pub number_of-blank : (s text : List ℕ) → blank s ≡ true → number_of (s ++ text) ≡ number_of text
number_of-blank s text h = ap (option_map decimal_value) (word_of-blank is_number s text h)

-- a letter is a byte of names, and no digit
pub letter_in_name : (b : ℕ) → is_ascii_lowercase b ≡ true → is_name_byte b ≡ true
letter_in_name b h = rw h refl

name_bytes : (word : List ℕ) → is_name word ≡ true → list_all is_name_byte word ≡ true
name_bytes [] h = absurd (cc)
name_bytes (b ∷ bs) h =
    let first = and_parts (is_ascii_lowercase b && list_all is_name_byte bs) (not (is_max (b ∷ bs))) h in
    let both = and_parts (is_ascii_lowercase b) (list_all is_name_byte bs) first.0 in
    and_from (is_name_byte b) (list_all is_name_byte bs) (letter_in_name b both.0) both.1

number_digits : (word : List ℕ) → is_number word ≡ true → list_all is_ascii_digit word ≡ true
number_digits word h =
    let small = and_parts (not (is_empty word)) (is_small word) h in
    let digits = and_parts (list_all is_ascii_digit word && nat_le (length word) 7) (nat_le (decimal_value word) 1000000) small.1 in
    (and_parts (list_all is_ascii_digit word) (nat_le (length word) 7) digits.0).0

-- names have none of the other bytes of the grammar
pub name_of-lacks : (c : ℕ) → is_name_byte c ≡ false → nat_eq 32 c ≡ false → Lacks c name_of
name_of-lacks c no_c apart text h = lacks-word_of is_name c apart (λ word n. lacks-from is_name_byte c word no_c (name_bytes word n)) text h

pub number_of-lacks : (c : ℕ) → is_ascii_digit c ≡ false → nat_eq 32 c ≡ false → Lacks c number_of
number_of-lacks c no_c apart text h = lacks-word_of is_number c apart (λ word n. lacks-from is_ascii_digit c word no_c (number_digits word n)) text (some (word_of is_number text) h)
  where
    some : (o : Option (List ℕ)) → is_some (option_map decimal_value o) ≡ true → is_some o ≡ true
    some None h = absurd (cc)
    some (Some x) h = refl

-- a word that goes on with a byte that is none of a name's
pub not_name_with : (front : List ℕ) (c : ℕ) (more : List ℕ) → is_name_byte c ≡ false → is_name (front ++ c ∷ more) ≡ false
not_name_with front c more h =
    false_from_ne_true (is_name (front ++ c ∷ more)) (λ n.
    let all = sym (list_all-append is_name_byte front (c ∷ more)) ∙ name_bytes (front ++ c ∷ more) n in
    let back = and_parts (list_all is_name_byte front) (list_all is_name_byte (c ∷ more)) all in
    both_ways (is_name_byte c) h (and_parts (is_name_byte c) (list_all is_name_byte more) back.1).0)

not_name_first : (b : ℕ) (more : List ℕ) → is_ascii_lowercase b ≡ false → is_name (b ∷ more) ≡ false
not_name_first b more h = rw h refl

space_apart : (c : ℕ) → is_byte 32 c ≡ false → c ≡ 32 → ⊥
space_apart c h e = both_ways (nat_eq c 32) h (eq-eqb c 32 e)

a_name : name_of (97 ∷ []) ≡ Some (97 ∷ [])
a_name = refl

-- Reading a name. The text does not begin with a space.
pub name_no_letter : (r : List ℕ) → begins (is_byte 32) r ≡ false → begins is_ascii_lowercase r ≡ false → Reads name_of r r None
name_no_letter r h k = record {
  bytes = [];
  split = refl;
  start = (97 ∷ [], refl);
  stop = stops r h k;
  is = refl;
}
  where
    stops : (r : List ℕ) → begins (is_byte 32) r ≡ false → begins is_ascii_lowercase r ≡ false → IsStop name_of [] r
    stops [] h k = tt
    stops (b ∷ bs) h k = λ rest. word_of-more is_name [] b rest refl (space_apart b h) (λ more. not_name_first b more k)

-- the word `max` and more of a name
max_more : (b : ℕ) (w : List ℕ) → is_max (b ∷ w) ≡ true → is_name ((b ∷ w) ++ 97 ∷ []) ≡ true
max_more b [] h = absurd (cc)
max_more b (c ∷ []) h = absurd (cc)
max_more b (c ∷ d ∷ []) h =
    let both = and_parts (nat_eq b 109 && nat_eq c 97) (nat_eq d 120) h in
    let first = and_parts (nat_eq b 109) (nat_eq c 97) both.0 in
    let eb : b ≡ 109 = eqb-true b 109 first.0 in
    let ec : c ≡ 97 = eqb-true c 97 first.1 in
    let ed : d ≡ 120 = eqb-true d 120 both.1 in
    rw (eb, ec, ed) refl
max_more b (c ∷ d ∷ e ∷ w) h = absurd (cc)

pub name_max : (r : List ℕ) (b : ℕ) (w q : List ℕ) → IsRun is_name_byte r (b ∷ w) q → is_max (b ∷ w) ≡ true → Reads name_of r q None
name_max r b w q run max =
    let free : lacks 32 (b ∷ w) ≡ true = lacks-from is_name_byte 32 (b ∷ w) refl run.all in
    let no_name : is_name (b ∷ w) ≡ false = and_false_right (is_ascii_lowercase b && list_all is_name_byte w) (not (is_max (b ∷ w))) (not_from_true (is_max (b ∷ w)) max) in
    let longer = max_more b w max in
    let free_longer : lacks 32 ((b ∷ w) ++ 97 ∷ []) ≡ true = lacks-append 32 (b ∷ w) (97 ∷ []) free refl in
    let value : name_of (b ∷ w) ≡ None = ap name_of (sym (append-nil (b ∷ w))) ∙ word_of-one is_name b w [] free refl ∙ rw no_name refl in
    let start : name_of ((b ∷ w) ++ 97 ∷ []) ≡ Some ((b ∷ w) ++ 97 ∷ []) = ap name_of (sym (append-nil ((b ∷ w) ++ 97 ∷ []))) ∙ word_of-one is_name b (w ++ 97 ∷ []) [] free_longer refl ∙ rw longer refl in
    record {
      bytes = b ∷ w;
      split = run.split;
      start = (97 ∷ [], ap is_some start);
      stop = stops q free no_name run.ends;
      is = sym value;
    }
  where
    stops : (q : List ℕ) → lacks 32 (b ∷ w) ≡ true → is_name (b ∷ w) ≡ false → begins is_name_byte q ≡ false → IsStop name_of (b ∷ w) q
    stops [] free no_name ends = tt
    stops (c ∷ q) free no_name ends = λ rest. elim (cases_Bool (nat_eq c 32)) as (λ _. name_of ((b ∷ w) ++ c ∷ rest) ≡ None) [
      | inl same ↦ let e : c ≡ 32 = eqb-true c 32 same in rw e (word_of-fails is_name b w rest free no_name)
      | inr other ↦ word_of-more is_name (b ∷ w) c rest free (eqb-false c 32 other) (λ more. not_name_with (b ∷ w) c more ends)
    ]

pub name_read : (r : List ℕ) (b : ℕ) (w s u q : List ℕ) → IsRun is_name_byte r (b ∷ w) q → is_ascii_lowercase b ≡ true → is_max (b ∷ w) ≡ false → IsRun (is_byte 32) q s u → Reads name_of r u (Some (b ∷ w))
name_read r b w s u q run letter max spaces =
    let free : lacks 32 (b ∷ w) ≡ true = lacks-from is_name_byte 32 (b ∷ w) refl run.all in
    let bytes = and_parts (is_name_byte b) (list_all is_name_byte w) run.all in
    let named : is_name (b ∷ w) ≡ true = and_from (is_ascii_lowercase b && list_all is_name_byte w) (not (is_max (b ∷ w))) (and_from (is_ascii_lowercase b) (list_all is_name_byte w) letter bytes.1) (not_from_false (is_max (b ∷ w)) max) in
    let value : name_of ((b ∷ w) ++ s) ≡ Some (b ∷ w) = word_of-one is_name b w s free spaces.all ∙ rw named refl in
    record {
      bytes = (b ∷ w) ++ s;
      split = run.split ∙ ap (λ text. (b ∷ w) ++ text) spaces.split ∙ sym (append_assoc (b ∷ w) s u);
      start = ([], ap is_some (ap name_of (append-nil ((b ∷ w) ++ s)) ∙ value));
      stop = stops u free spaces.ends spaces.split;
      is = sym value;
    }
  where
    stops : (u : List ℕ) → lacks 32 (b ∷ w) ≡ true → begins (is_byte 32) u ≡ false → q ≡ s ++ u → IsStop name_of ((b ∷ w) ++ s) u
    stops [] free ends split = tt
    stops (c ∷ u) free ends split = λ rest. ap name_of (append_assoc (b ∷ w) s (c ∷ rest)) ∙ word_of-stop is_name b w s c rest free spaces.all (space_apart c ends) (λ more none. not_name_with (b ∷ w) c more (first_ends none))
      where
        first_ends : s ≡ [] → is_name_byte c ≡ false
        first_ends none = rw (split, none) at run.ends

-- Terms.
times_name-some : (times : ℕ) (o : Option (List ℕ)) → times_name (Some times) o ≡ option_map (term times) o
times_name-some times None = refl
times_name-some times (Some name) = refl

times_name-none : (o : Option (List ℕ)) → times_name None o ≡ None
times_name-none None = refl
times_name-none (Some name) = refl

pub term_of-blank : (s text : List ℕ) → blank s ≡ true → term_of (s ++ text) ≡ term_of text
term_of-blank s text h =
    let rest = cut 42 text in
    let at = parts-onto 42 s text rest.first rest.others (lacks-from (is_byte 32) 42 s refl h) rest.is in
    ap term_in at ∙ same rest.first rest.others ∙ sym (ap term_in rest.is)
  where
    same : (first : List ℕ) (others : List (List ℕ)) → term_in ((s ++ first) ∷ others) ≡ term_in (first ∷ others)
    same first [] = ap (times_name (Some 1)) (name_of-blank s first h)
    same first (x ∷ []) = ap (λ n. times_name n (name_of x)) (number_of-blank s first h)
    same first (x ∷ y ∷ others) = refl

-- a text without a star
term_of-alone : (text : List ℕ) → lacks 42 text ≡ true → term_of text ≡ option_map (term 1) (name_of text)
term_of-alone text h = ap term_in (parts-one 42 text h) ∙ times_name-some 1 (name_of text)

-- a name that is there lacks the star
term_of-name : (text : List ℕ) → is_some (name_of text) ≡ true → term_of text ≡ option_map (term 1) (name_of text)
term_of-name text h = term_of-alone text (name_of-lacks 42 refl refl text h)

name_of-star : (text : List ℕ) → lacks 42 text ≡ false → name_of text ≡ None
name_of-star text h = nothing (name_of text) (λ some. both_ways (lacks 42 text) h (name_of-lacks 42 refl refl text some))
  where
    nothing : (o : Option (List ℕ)) → (is_some o ≡ true → ⊥) → o ≡ None
    nothing None h = refl
    nothing (Some x) h = absurd (h refl)

-- behind a number and a star
pub term_of-times : (front text : List ℕ) (times : ℕ) → lacks 42 front ≡ true → number_of front ≡ Some times → term_of (front ++ 42 ∷ text) ≡ option_map (term times) (name_of text)
term_of-times front text times h e =
    ap term_in (parts-at 42 front text h) ∙ elim (cases_Bool (lacks 42 text)) as (λ _. term_in (front ∷ parts 42 text) ≡ option_map (term times) (name_of text)) [
      | inl free ↦ ap (λ ps. term_in (front ∷ ps)) (parts-one 42 text free) ∙ ap (λ n. times_name n (name_of text)) e ∙ times_name-some times (name_of text)
      | inr star ↦ let two = cut_twice 42 text star in ap (λ ps. term_in (front ∷ ps)) two.is ∙ sym (ap (option_map (term times)) (name_of-star text star))
    ]

-- a text whose first byte is no digit and no space
pub term_of-no_digit : (b : ℕ) (text : List ℕ) → is_ascii_digit b ≡ false → (b ≡ 32 → ⊥) → term_of (b ∷ text) ≡ option_map (term 1) (name_of (b ∷ text))
term_of-no_digit b text h apart = elim (cases_Bool (lacks 42 (b ∷ text))) as (λ _. term_of (b ∷ text) ≡ option_map (term 1) (name_of (b ∷ text))) [
  | inl free ↦ term_of-alone (b ∷ text) free
  | inr star ↦
      let two = cut_twice 42 (b ∷ text) star in
      ap term_in two.is ∙ nothing two.first two.second two.others (no_number two.first (two.second ∷ two.others) two.is) ∙ sym (ap (option_map (term 1)) (name_of-star (b ∷ text) star))
]
  where
    nothing : (first second : List ℕ) (others : List (List ℕ)) → number_of first ≡ None → term_in (first ∷ second ∷ others) ≡ None
    nothing first second [] e = ap (λ n. times_name n (name_of second)) e ∙ times_name-none (name_of second)
    nothing first second (x ∷ others) e = refl

    no_number : (first : List ℕ) (others : List (List ℕ)) → parts 42 (b ∷ text) ≡ first ∷ others → number_of first ≡ None
    no_number first others e =
        let rest = cut 42 text in
        elim (cases_Bool (nat_eq b 42)) as (λ _. number_of first ≡ None) [
          | inl same ↦ let whole : [] ∷ parts 42 text ≡ first ∷ others = rw same at e in let here : [] ≡ first = cc in rw (sym here) refl
          | inr other ↦
              let whole : (b ∷ rest.first) ∷ rest.others ≡ first ∷ others = rw (other, rest.is) at e in
              let here : b ∷ rest.first ≡ first = cc in
              rw (sym here) (ap (option_map decimal_value) (word_of-more is_number [] b rest.first refl apart (λ more. no_digit_first more)))
        ]
      where
        no_digit_first : (more : List ℕ) → is_number (b ∷ more) ≡ false
        no_digit_first more = rw h refl

-- a part of a number
decimal-le : (a : ℕ) (more : List ℕ) → a ≤ fold (λ value b. value * 10 + (b - 48)) a more
decimal-le a [] = omega arith
decimal-le a (b ∷ more) = let up : a * 10 + (b - 48) ≤ fold (λ value b. value * 10 + (b - 48)) (a * 10 + (b - 48)) more = decimal-le (a * 10 + (b - 48)) more in omega arith

pub small_front : (front more : List ℕ) → is_small (front ++ more) ≡ true → is_small front ≡ true
small_front front more h =
    let whole = and_parts (list_all is_ascii_digit (front ++ more) && nat_le (length (front ++ more)) 7) (nat_le (decimal_value (front ++ more)) 1000000) h in
    let both = and_parts (list_all is_ascii_digit (front ++ more)) (nat_le (length (front ++ more)) 7) whole.0 in
    let digits = and_parts (list_all is_ascii_digit front) (list_all is_ascii_digit more) (sym (list_all-append is_ascii_digit front more) ∙ both.0) in
    let count : length (front ++ more) ≤ 7 = leb-true (length (front ++ more)) 7 both.1 in
    let value : decimal_value (front ++ more) ≤ 1000000 = leb-true (decimal_value (front ++ more)) 1000000 whole.1 in
    let counts = length-append front more in
    let values : decimal_value (front ++ more) ≡ fold (λ value b. value * 10 + (b - 48)) (decimal_value front) more = fold-append (λ value b. value * 10 + (b - 48)) 0 front more in
    let up = decimal-le (decimal_value front) more in
    and_from (list_all is_ascii_digit front && nat_le (length front) 7) (nat_le (decimal_value front) 1000000)
    (and_from (list_all is_ascii_digit front) (nat_le (length front) 7) digits.0 (le-leb (length front) 7 (omega arith)))
    (le-leb (decimal_value front) 1000000 (omega arith))

not_number_with : (b : ℕ) (w : List ℕ) (c : ℕ) (more : List ℕ) → is_number ((b ∷ w) ++ c ∷ []) ≡ false → is_number ((b ∷ w) ++ c ∷ more) ≡ false
not_number_with b w c more h =
    false_from_ne_true (is_number ((b ∷ w) ++ c ∷ more)) (λ n.
    let regroup : ((b ∷ w) ++ c ∷ []) ++ more ≡ (b ∷ w) ++ c ∷ more = append_assoc (b ∷ w) (c ∷ []) more in
    let small : is_small ((b ∷ w) ++ c ∷ more) ≡ true = n in
    both_ways (is_number ((b ∷ w) ++ c ∷ [])) h (small_front ((b ∷ w) ++ c ∷ []) more (ap is_small regroup ∙ small)))

digit_no_letter : (b : ℕ) → is_ascii_digit b ≡ true → is_ascii_lowercase b ≡ false
digit_no_letter b h =
    let both = and_parts (nat_le 48 b) (nat_le b 57) h in
    let low : b ≤ 57 = leb-true b 57 both.1 in
    let no_letter : nat_le 97 b ≡ false = lt-leb 97 b (omega arith) in
    rw no_letter refl

-- Reading a number and a star.
module _ (r : List ℕ) (b : ℕ) (w q s u : List ℕ) (run : IsNumberRun r (b ∷ w) q) (spaces : IsRun (is_byte 32) q s u) where
  digits : list_all is_ascii_digit (b ∷ w) ≡ true
  digits = number_digits (b ∷ w) run.number

  no_space : lacks 32 (b ∷ w) ≡ true
  no_space = lacks-from is_ascii_digit 32 (b ∷ w) refl digits

  no_star : lacks 42 ((b ∷ w) ++ s) ≡ true
  no_star = lacks-append 42 (b ∷ w) s (lacks-from is_ascii_digit 42 (b ∷ w) refl digits) (lacks-from (is_byte 32) 42 s refl spaces.all)

  no_letter : is_ascii_lowercase b ≡ false
  no_letter = digit_no_letter b (and_parts (is_ascii_digit b) (list_all is_ascii_digit w) digits).0

  value : number_of ((b ∷ w) ++ s) ≡ Some (decimal_value (b ∷ w))
  value =
      let word : word_of is_number ((b ∷ w) ++ s) ≡ Some (b ∷ w) = word_of-one is_number b w s no_space spaces.all ∙ rw run.number refl in
      ap (option_map decimal_value) word

  split : r ≡ ((b ∷ w) ++ s) ++ u
  split = run.split ∙ ap (λ text. (b ∷ w) ++ text) spaces.split ∙ sym (append_assoc (b ∷ w) s u)

  pub term_no_star : begins (is_byte 42) u ≡ false → Reads term_of r u None
  term_no_star h = record {
    bytes = (b ∷ w) ++ s;
    split = split;
    start = (42 ∷ 97 ∷ [], ap is_some (term_of-times ((b ∷ w) ++ s) (97 ∷ []) (decimal_value (b ∷ w)) no_star value));
    stop = stops u h spaces.ends spaces.split;
    is = sym (term_of-alone ((b ∷ w) ++ s) no_star ∙ (let word : name_of ((b ∷ w) ++ s) ≡ None = word_of-one is_name b w s no_space spaces.all ∙ rw (no_name w) refl in ap (option_map (term 1)) word));
  }
    where
      no_name : (more : List ℕ) → is_name (b ∷ more) ≡ false
      no_name more = rw no_letter refl

      stops : (u : List ℕ) → begins (is_byte 42) u ≡ false → begins (is_byte 32) u ≡ false → q ≡ s ++ u → IsStop term_of ((b ∷ w) ++ s) u
      stops [] h k e = tt
      stops (c ∷ u) h k e = λ rest.
          let rest_cut = cut 42 rest in
          let whole : lacks 42 (((b ∷ w) ++ s) ++ c ∷ []) ≡ true = lacks-append 42 ((b ∷ w) ++ s) (c ∷ []) no_star (rw h refl) in
          let at : parts 42 (((b ∷ w) ++ s) ++ c ∷ rest) ≡ (((b ∷ w) ++ s) ++ c ∷ rest_cut.first) ∷ rest_cut.others = ap (parts 42) (sym (append_assoc ((b ∷ w) ++ s) (c ∷ []) rest)) ∙ parts-onto 42 (((b ∷ w) ++ s) ++ c ∷ []) rest rest_cut.first rest_cut.others whole rest_cut.is ∙ ap (λ first. first ∷ rest_cut.others) (append_assoc ((b ∷ w) ++ s) (c ∷ []) rest_cut.first) in
          ap term_in at ∙ nothing rest_cut.first rest_cut.others
        where
          apart : c ≡ 32 → ⊥
          apart = space_apart c k

          no_name_here : (first : List ℕ) → name_of (((b ∷ w) ++ s) ++ c ∷ first) ≡ None
          no_name_here first = ap name_of (append_assoc (b ∷ w) s (c ∷ first)) ∙ word_of-stop is_name b w s c first no_space spaces.all apart (λ more none. no_name (w ++ c ∷ more))

          no_number_here : (first : List ℕ) → number_of (((b ∷ w) ++ s) ++ c ∷ first) ≡ None
          no_number_here first = ap (option_map decimal_value) (ap (word_of is_number) (append_assoc (b ∷ w) s (c ∷ first)) ∙ word_of-stop is_number b w s c first no_space spaces.all apart (λ more none. not_number_with b w c more (run.ends c u (e ∙ ap (λ text. text ++ c ∷ u) none))))

          nothing : (first : List ℕ) (others : List (List ℕ)) → term_in ((((b ∷ w) ++ s) ++ c ∷ first) ∷ others) ≡ None
          nothing first [] = ap (times_name (Some 1)) (no_name_here first)
          nothing first (x ∷ []) = ap (λ n. times_name n (name_of x)) (no_number_here first) ∙ times_name-none (name_of x)
          nothing first (x ∷ y ∷ others) = refl

  pub term_star : (v : List ℕ) → u ≡ 42 ∷ v → LeadsTo term_of name_of (term (decimal_value (b ∷ w))) r v
  term_star v e = record {
    bytes = ((b ∷ w) ++ s) ++ 42 ∷ [];
    split = split ∙ ap (λ text. ((b ∷ w) ++ s) ++ text) e ∙ sym (append_assoc ((b ∷ w) ++ s) (42 ∷ []) v);
    goes_on = λ more. ap term_of (append_assoc ((b ∷ w) ++ s) (42 ∷ []) more) ∙ term_of-times ((b ∷ w) ++ s) more (decimal_value (b ∷ w)) no_star value;
  }

-- Reading a name alone. The text begins neither with a space nor with a digit.
pub term_plain : (r left : List ℕ) (name : Option (List ℕ)) → begins (is_byte 32) r ≡ false → begins is_ascii_digit r ≡ false → Reads name_of r left name → Reads term_of r left (option_map (term 1) name)
term_plain r left name h k n = record {
  bytes = n.bytes;
  split = n.split;
  start = (n.start.0, ap is_some (term_of-name (n.bytes ++ n.start.0) n.start.1) ∙ is_some-option_map (term 1) (name_of (n.bytes ++ n.start.0)) ∙ n.start.1);
  stop = stops n.bytes left n.split n.stop;
  is = ap (option_map (term 1)) n.is ∙ sym (values n.bytes n.split);
}
  where
    here : (b : ℕ) (bs : List ℕ) → r ≡ b ∷ bs → (text : List ℕ) → term_of (b ∷ text) ≡ option_map (term 1) (name_of (b ∷ text))
    here b bs e text = term_of-no_digit b text (rw e at k) (space_apart b (rw e at h))

    values : (bytes : List ℕ) → r ≡ bytes ++ left → term_of bytes ≡ option_map (term 1) (name_of bytes)
    values [] e = refl
    values (b ∷ bs) e = here b (bs ++ left) e bs

    stops : (bytes left : List ℕ) → r ≡ bytes ++ left → IsStop name_of bytes left → IsStop term_of bytes left
    stops bytes [] e stop = tt
    stops [] (c ∷ left) e stop = λ rest. here c left e rest ∙ ap (option_map (term 1)) (stop rest)
    stops (b ∷ bs) (c ∷ left) e stop = λ rest. here b (bs ++ c ∷ left) e (bs ++ c ∷ rest) ∙ ap (option_map (term 1)) (stop rest)

-- terms have none of the bytes of sums and levels
pub term_of-lacks : (c : ℕ) → is_name_byte c ≡ false → is_ascii_digit c ≡ false → nat_eq 32 c ≡ false → nat_eq 42 c ≡ false → Lacks c term_of
term_of-lacks c no_name no_digit no_space no_star text h = lacks-parts 42 c text no_star (all (parts 42 text) h)
  where
    times_some : (n : Option ℕ) (o : Option (List ℕ)) → is_some (times_name n o) ≡ true → (is_some n ≡ true) × (is_some o ≡ true)
    times_some None None h = absurd (cc)
    times_some None (Some x) h = absurd (cc)
    times_some (Some n) None h = absurd (cc)
    times_some (Some n) (Some x) h = (refl, refl)

    all : (ps : List (List ℕ)) → is_some (term_in ps) ≡ true → list_all (lacks c) ps ≡ true
    all [] h = absurd (cc)
    all (x ∷ []) h = and_from (lacks c x) true (name_of-lacks c no_name no_space x (times_some (Some 1) (name_of x) h).1) refl
    all (x ∷ y ∷ []) h =
        let both = times_some (number_of x) (name_of y) h in
        and_from (lacks c x) (lacks c y && true) (number_of-lacks c no_digit no_space x both.0) (and_from (lacks c y) true (name_of-lacks c no_name no_space y both.1) refl)
    all (x ∷ y ∷ z ∷ ps) h = absurd (cc)
