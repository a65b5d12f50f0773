use Rattle.std.proofs.Common.{◌≡◌, ◌<◌, ℕ, List, false, nat_eq, length, take, drop, not, arith, rules, sym, ap, ◌∙◌, ◌∷◌, subst}
use Rattle.std.specs.List.{prefix_len}
use Rattle.std.proofs.lemmas.Bool.Decides.{nat_tests}
use Rattle.ascii.specs.Bytes.{is_space}
use Rattle.ascii.specs.Texts.{words}
use Rattle.ascii.proofs.Wording.{words-none, words-first}
use Rattle.ascii.proofs.words.next_word.Goals as goal

pub returns-then-is_empty : goal.returns-then-is_empty
returns-then-is_empty c =
    let text = c.args.text.now in
    let front : c.split_at.result.1.now ≡ drop (prefix_len is_space text) text = c.split_at.ensures.back ∙ ap (λ n. drop n text) c.spaces_len.ensures.len in
    let none : length (drop (prefix_len is_space text) text) ≡ 0 = sym (ap length front) ∙ search rules in
    words-none text none

pub returns : goal.returns
returns c =
    let text = c.args.text.now in
    let front : c.split_at.result.1.now ≡ drop (prefix_len is_space text) text = c.split_at.ensures.back ∙ ap (λ n. drop n text) c.spaces_len.ensures.len in
    let P : List ℕ → Type 0 = λ f. words text ≡ take (prefix_len (λ byte. not (is_space byte)) f) f ∷ words (drop (prefix_len (λ byte. not (is_space byte)) f) f) in
    let Q : List ℕ → Type 0 = λ f. 0 < length f in
    let full : nat_eq (length c.split_at.result.1.now) 0 ≡ false = sym c.is_empty.ensures ∙ c.if-is_empty.false in
    let long : 0 < length c.split_at.result.1.now = grind (arith, nat_tests) in
    let some : 0 < length (drop (prefix_len is_space text) text) = subst Q front long in
    let first = subst P (sym front) (words-first text some) in
    let word : c.split_at-2.result.0.now ≡ take (prefix_len (λ byte. not (is_space byte)) c.split_at.result.1.now) c.split_at.result.1.now = c.split_at-2.ensures.front ∙ ap (λ n. take n c.split_at.result.1.now) c.word_len.ensures.len in
    let behind : c.split_at-2.result.1.now ≡ drop (prefix_len (λ byte. not (is_space byte)) c.split_at.result.1.now) c.split_at.result.1.now = c.split_at-2.ensures.back ∙ ap (λ n. drop n c.split_at.result.1.now) c.word_len.ensures.len in
    first ∙ (λ i. (sym word i) ∷ words (sym behind i))
