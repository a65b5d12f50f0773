-- The words of a text that is put together, and the reading of one word.
use Rattle.std.proofs.Common.{◌≡◌, ℕ, List, [], ◌∷◌, ◌++◌, Bool, true, false, not, cond, nat_eq, Some, None, is_some, refl, ap, ◌∙◌, inl, inr, append_assoc, append-nil}
use Rattle.std.specs.List.{list_all, filter}
use Rattle.std.proofs.lemmas.Bool.{and_from, and_parts, eqb-true, ne_eqb, cases_Bool, both_ways}
use Rattle.cost_vector.specs.Grammar.{parts, words, is_empty, only, if_test, word_of}
use Rattle.cost_vector.specs.Reading.{is_byte}
use Rattle.cost_vector.proofs.Parts.{lacks, cut, parts-onto, parts-one, parts-at}
use Rattle.cost_vector.proofs.Starts.{lacks-append}

-- all bytes are spaces
abbrev pub blank : List ℕ → Bool
blank text = list_all (is_byte 32) text

pub words-blank : (s text : List ℕ) → blank s ≡ true → words (s ++ text) ≡ words text
words-blank [] text h = refl
words-blank (b ∷ s) text h =
    let both = and_parts (nat_eq b 32) (blank s) h in
    rw both.0 (words-blank s text both.1)

pub words-none : (s : List ℕ) → blank s ≡ true → words s ≡ []
words-none s h = simp append-nil at (words-blank s [] h)

-- a word, and what is behind it
pub words-at : (b : ℕ) (w text : List ℕ) → lacks 32 (b ∷ w) ≡ true → words ((b ∷ w) ++ 32 ∷ text) ≡ (b ∷ w) ∷ words text
words-at b w text h = rw (parts-at 32 (b ∷ w) text h) refl

-- a word alone
pub words-one : (b : ℕ) (w s : List ℕ) → lacks 32 (b ∷ w) ≡ true → blank s ≡ true → words ((b ∷ w) ++ s) ≡ (b ∷ w) ∷ []
words-one b w [] h k =
    let alone : words (b ∷ w) ≡ (b ∷ w) ∷ [] = rw (parts-one 32 (b ∷ w) h) refl in
    ap words (append-nil (b ∷ w)) ∙ alone
words-one b w (c ∷ s) h k =
    let both = and_parts (nat_eq c 32) (blank s) k in
    let e : c ≡ 32 = eqb-true c 32 both.0 in
    rw e (words-at b w s h ∙ ap (λ others. (b ∷ w) ∷ others) (words-none s both.1))

-- the first word goes on
pub record FirstWord (front : List ℕ) (b : ℕ) (text : List ℕ) : Type 0 where
  pub more : List ℕ
  pub others : List (List ℕ)
  pub is : words (front ++ b ∷ text) ≡ (front ++ b ∷ more) ∷ others

pub words-more : (front : List ℕ) (b : ℕ) (text : List ℕ) → lacks 32 front ≡ true → (b ≡ 32 → ⊥) → FirstWord front b text
words-more front b text h apart =
    let rest = cut 32 text in
    let whole : lacks 32 (front ++ b ∷ []) ≡ true = lacks-append 32 front (b ∷ []) h (rw (ne_eqb b 32 apart) refl) in
    let at : parts 32 (front ++ b ∷ text) ≡ (front ++ b ∷ rest.first) ∷ rest.others = simp append_assoc at (parts-onto 32 (front ++ b ∷ []) text rest.first rest.others whole rest.is) in
    record {
      more = rest.first;
      others = filter (λ word. not (is_empty word)) rest.others;
      is = rw at (full front rest.first rest.others);
    }
  where
    full : (front first : List ℕ) (others : List (List ℕ)) → filter (λ word. not (is_empty word)) ((front ++ b ∷ first) ∷ others) ≡ (front ++ b ∷ first) ∷ filter (λ word. not (is_empty word)) others
    full [] first others = refl
    full (x ∷ front) first others = refl

-- A text of one word that passes a test.
module _ (test : List ℕ → Bool) where
  pub word_of-blank : (s text : List ℕ) → blank s ≡ true → word_of test (s ++ text) ≡ word_of test text
  word_of-blank s text h = ap (λ ws. if_test test (only ws)) (words-blank s text h)

  pub word_of-none : (s : List ℕ) → blank s ≡ true → word_of test s ≡ None
  word_of-none s h = ap (λ ws. if_test test (only ws)) (words-none s h)

  pub word_of-one : (b : ℕ) (w s : List ℕ) → lacks 32 (b ∷ w) ≡ true → blank s ≡ true → word_of test ((b ∷ w) ++ s) ≡ cond (test (b ∷ w)) (Some (b ∷ w)) None
  word_of-one b w s h k = ap (λ ws. if_test test (only ws)) (words-one b w s h k)

  -- the word goes on, and is none that passes
  pub word_of-more : (front : List ℕ) (b : ℕ) (text : List ℕ) → lacks 32 front ≡ true → (b ≡ 32 → ⊥) → ((more : List ℕ) → test (front ++ b ∷ more) ≡ false) → word_of test (front ++ b ∷ text) ≡ None
  word_of-more front b text h apart fails =
      let first = words-more front b text h apart in
      ap (λ ws. if_test test (only ws)) first.is ∙ by_others (front ++ b ∷ first.more) first.others (fails first.more)
    where
      by_others : (word : List ℕ) (others : List (List ℕ)) → test word ≡ false → if_test test (only (word ∷ others)) ≡ None
      by_others word [] e = rw e refl
      by_others word (x ∷ xs) e = refl

  -- a word that fails
  pub word_of-fails : (b : ℕ) (w text : List ℕ) → lacks 32 (b ∷ w) ≡ true → test (b ∷ w) ≡ false → word_of test ((b ∷ w) ++ 32 ∷ text) ≡ None
  word_of-fails b w text h fails = ap (λ ws. if_test test (only ws)) (words-at b w text h) ∙ by_others (words text)
    where
      by_others : (others : List (List ℕ)) → if_test test (only ((b ∷ w) ∷ others)) ≡ None
      by_others [] = rw fails refl
      by_others (x ∷ xs) = refl

  -- two words
  pub word_of-two : (b : ℕ) (w s : List ℕ) (c : ℕ) (text : List ℕ) → lacks 32 (b ∷ w) ≡ true → blank s ≡ true → (c ≡ 32 → ⊥) → word_of test ((b ∷ w) ++ 32 ∷ (s ++ c ∷ text)) ≡ None
  word_of-two b w s c text h k apart =
      let second = words-more [] c text refl apart in
      let all : words ((b ∷ w) ++ 32 ∷ (s ++ c ∷ text)) ≡ (b ∷ w) ∷ (c ∷ second.more) ∷ second.others = words-at b w (s ++ c ∷ text) h ∙ ap (λ others. (b ∷ w) ∷ others) (words-blank s (c ∷ text) k ∙ second.is) in
      ap (λ ws. if_test test (only ws)) all

  -- a word, perhaps spaces behind it, and then a byte that does not go on with the word: nothing, where the word cannot go on
  pub word_of-stop : (b : ℕ) (w s : List ℕ) (c : ℕ) (text : List ℕ) → lacks 32 (b ∷ w) ≡ true → blank s ≡ true → (c ≡ 32 → ⊥) → ((more : List ℕ) → s ≡ [] → test ((b ∷ w) ++ c ∷ more) ≡ false)
      → word_of test ((b ∷ w) ++ (s ++ c ∷ text)) ≡ None
  word_of-stop b w [] c text h k apart fails = word_of-more (b ∷ w) c text h apart (λ more. fails more refl)
  word_of-stop b w (x ∷ s) c text h k apart fails =
      let both = and_parts (nat_eq x 32) (blank s) k in
      let e : x ≡ 32 = eqb-true x 32 both.0 in
      rw e (word_of-two b w s c text h both.1 apart)

-- bytes that all pass a test that c fails
pub lacks-from : (p : ℕ → Bool) (c : ℕ) (text : List ℕ) → p c ≡ false → list_all p text ≡ true → lacks c text ≡ true
lacks-from p c [] no_c h = refl
lacks-from p c (b ∷ text) no_c h =
    let both = and_parts (p b) (list_all p text) h in
    let apart : nat_eq b c ≡ false = ne_eqb b c (λ e. both_ways (p c) no_c (rw e at both.0)) in
    rw apart (lacks-from p c text no_c both.1)

-- A text has none of the bytes d that its parts do not have.
pub lacks-parts : (c d : ℕ) (text : List ℕ) → nat_eq c d ≡ false → list_all (lacks d) (parts c text) ≡ true → lacks d text ≡ true
lacks-parts c d [] apart h = refl
lacks-parts c d (b ∷ bs) apart h =
    let rest = cut c bs in
    elim (cases_Bool (nat_eq b c)) as (λ _. lacks d (b ∷ bs) ≡ true) [
      | inl same ↦
          let e : b ≡ c = eqb-true b c same in
          let others : list_all (lacks d) (parts c bs) ≡ true = rw same at h in
          let not_d : nat_eq b d ≡ false = rw e apart in
          rw not_d (lacks-parts c d bs apart others)
      | inr other ↦
          let onto : list_all (lacks d) ((b ∷ rest.first) ∷ rest.others) ≡ true = rw (other, rest.is) at h in
          let both = and_parts (lacks d (b ∷ rest.first)) (list_all (lacks d) rest.others) onto in
          let first = and_parts (not (nat_eq b d)) (lacks d rest.first) both.0 in
          let others : list_all (lacks d) (parts c bs) ≡ true = rw rest.is (and_from (lacks d rest.first) (list_all (lacks d) rest.others) first.1 both.1) in
          and_from (not (nat_eq b d)) (lacks d bs) first.0 (lacks-parts c d bs apart others)
    ]

-- the words have all bytes but the spaces
pub lacks-words : (d : ℕ) (text : List ℕ) → nat_eq 32 d ≡ false → list_all (lacks d) (words text) ≡ true → lacks d text ≡ true
lacks-words d text apart h = lacks-parts 32 d text apart (filled (parts 32 text) h)
  where
    filled : (ps : List (List ℕ)) → list_all (lacks d) (filter (λ word. not (is_empty word)) ps) ≡ true → list_all (lacks d) ps ≡ true
    filled [] h = refl
    filled ([] ∷ ps) h = filled ps h
    filled ((b ∷ bs) ∷ ps) h =
        let both = and_parts (lacks d (b ∷ bs)) (list_all (lacks d) (filter (λ word. not (is_empty word)) ps)) h in
        and_from (lacks d (b ∷ bs)) (list_all (lacks d) ps) both.0 (filled ps both.1)

-- a text of one word that passes has no byte that no such word has
pub lacks-word_of : (test : List ℕ → Bool) (d : ℕ) → nat_eq 32 d ≡ false → ((word : List ℕ) → test word ≡ true → lacks d word ≡ true) → (text : List ℕ) → is_some (word_of test text) ≡ true → lacks d text ≡ true
lacks-word_of test d apart free text h = lacks-words d text apart (all (words text) h)
  where
    all : (ws : List (List ℕ)) → is_some (if_test test (only ws)) ≡ true → list_all (lacks d) ws ≡ true
    all [] h = absurd (cc)
    all (w ∷ []) h = and_from (lacks d w) true (free w (passes (test w) h)) refl
      where
        passes : (t : Bool) → is_some (cond t (Some w) None) ≡ true → t ≡ true
        passes true h = refl
        passes false h = absurd (cc)
    all (w ∷ x ∷ ws) h = absurd (cc)
