-- The words of a text, one at a time.
use Rattle.std.proofs.Common.{◌≡◌, ℕ, suc, ◌+◌, ◌<◌, List, [], ◌∷◌, Bool, true, false, cond, not, length, take, drop, refl, ap, sym, ◌∙◌, arith, nat_lt}
use Rattle.std.specs.List.{filter, slice_split, onto_first, prefix_len}
use Rattle.std.proofs.lemmas.Bool.Decides.{nat_tests}
use Rattle.ascii.specs.Bytes.{is_space}
use Rattle.ascii.specs.Texts.{is_some_text, words}

abbrev is_of_word : ℕ → Bool
is_of_word byte = not (is_space byte)

abbrev front : List ℕ → List ℕ
front text = drop (prefix_len is_space text) text

-- spaces at the front make no word
words-front : (text : List ℕ) → words (front text) ≡ words text
words-front [] = refl
words-front (x ∷ text) =
    elim (is_space x) as (λ b. is_space x ≡ b → words (drop (cond b (1 + prefix_len is_space text) 0) (x ∷ text)) ≡ words (x ∷ text)) [
      | true ↦ λ t.
          let next : 1 + prefix_len is_space text ≡ suc (prefix_len is_space text) = omega arith in
          let split : slice_split is_space (x ∷ text) ≡ [] ∷ slice_split is_space text = rw t refl in
          rw next (words-front text ∙ sym (ap (filter is_some_text) split))
      | false ↦ λ _. refl
    ] refl

abbrev word : List ℕ → List ℕ
word text = take (prefix_len is_of_word text) text

abbrev behind : List ℕ → List ℕ
behind text = drop (prefix_len is_of_word text) text

-- the first part of a text ends before its first space
first_part : (text : List ℕ) → (tail : List (List ℕ)) × (slice_split is_space text ≡ word text ∷ tail) × (filter is_some_text tail ≡ words (behind text))
first_part [] = ([], refl, refl)
first_part (x ∷ text) =
    let rest = first_part text in
    elim (is_space x) as
    (λ b. is_space x ≡ b
    → (tail : List (List ℕ))
    × (cond b ([] ∷ slice_split is_space text) (onto_first x (slice_split is_space text)) ≡ take (cond (not b) (1 + prefix_len is_of_word text) 0) (x ∷ text) ∷ tail)
    × (filter is_some_text tail ≡ words (drop (cond (not b) (1 + prefix_len is_of_word text) 0) (x ∷ text)))) [
      | true ↦ λ t.
          let split : slice_split is_space (x ∷ text) ≡ [] ∷ slice_split is_space text = rw t refl in
          (slice_split is_space text, refl, sym (ap (filter is_some_text) split))
      | false ↦ λ t.
          let next : 1 + prefix_len is_of_word text ≡ suc (prefix_len is_of_word text) = omega arith in
          (rest.0, rw next (ap (onto_first x) rest.1), rw next rest.2)
    ] refl

starts : (text : List ℕ) → nat_lt 0 (length (front text)) ≡ true → nat_lt 0 (length (word (front text))) ≡ true
starts [] h = absurd (cc)
starts (x ∷ text) h =
    elim (is_space x) as
    (λ b. is_space x ≡ b
    → nat_lt 0 (length (drop (cond b (1 + prefix_len is_space text) 0) (x ∷ text))) ≡ true
    → nat_lt 0 (length (word (drop (cond b (1 + prefix_len is_space text) 0) (x ∷ text)))) ≡ true) [
      | true ↦ λ _. let next : 1 + prefix_len is_space text ≡ suc (prefix_len is_space text) = omega arith in rw next (starts text)
      | false ↦ λ t _.
          let next : 1 + prefix_len is_of_word text ≡ suc (prefix_len is_of_word text) = omega arith in
          rw (t, next) (grind (arith, nat_tests))
    ] refl h

-- no word
pub words-none : (text : List ℕ) → length (front text) ≡ 0 → words text ≡ []
words-none text h = sym (words-front text) ∙ empty (front text) h
  where
    empty : (xs : List ℕ) → length xs ≡ 0 → words xs ≡ []
    empty [] h = refl
    empty (x ∷ xs) h = absurd (omega arith)

-- the first word, and those behind it
pub words-first : (text : List ℕ) → 0 < length (front text) → words text ≡ word (front text) ∷ words (behind (front text))
words-first text h =
    let some : nat_lt 0 (length (front text)) ≡ true = grind (arith, nat_tests) in
    let kept = starts text some in
    let at = first_part (front text) in
    sym (words-front text) ∙ ap (filter is_some_text) at.1 ∙ rw kept (ap (λ ws. word (front text) ∷ ws) at.2)
