-- The line of a command is read as the command.
use Rattle.std.proofs.Common.{◌≡◌, ℕ, ◌+◌, ◌-◌, ◌<◌, ◌≤◌, ◌^◌, Bool, true, false, cond, not, ◌&&◌, ◌==◌, List, [], ◌∷◌, ◌++◌, length, get_or, refl, ap, ◌∙◌, subst, append_assoc, arith, All, Some, None, Option, Result, Ok, decimal, nat_lt, leb, le-leb, lt-ltb, ne_eqb, codes}
use Rattle.std.specs.Char.{is_ascii_digit, is_ascii_graphic}
use Rattle.std.specs.List.{filter, list_all}
use Rattle.std.specs.Str.Parse.{digits_value}
use Rattle.std.proofs.lemmas.Bool.{and_from, and_parts, cond-true, cond-false, not_from_false}
use Rattle.std.proofs.lemmas.Fmt.{decimal_is_IsNumeral, length-decimal-le, first_decimal}
use Rattle.std.proofs.lemmas.List.Elements.{All-weaker}
use Rattle.std.proofs.lemmas.List.Splits.{slice_split_none, slice_split_at}
use Rattle.std.proofs.lemmas.List.Sums.{AllPass-from_list_all}
use Rattle.ascii.specs.Bytes.{is_space}
use Rattle.ascii.specs.Texts.{is_same, is_some_of, is_some_text, words}
use Rattle.ascii.proofs.Bytes.{other_byte}
use Rattle.ascii.proofs.Texts.{is_same-equal}
use Rattle.resolver_model.specs.declared.marks.Mark.TheVariants as mark
use Rattle.resolver_model.specs.declared.history.Command.{Command}
use Rattle.resolver_model.specs.declared.history.Command.TheVariants.{Next, Prev, Reject, Approve, Free, Cap, Rules, Summary, Accept, Quit, Bad}
use Rattle.resolver_model.specs.Problems.{Problem, is_choice}
use Rattle.universe_model.specs.Reading.{Texts}
use Rattle.universe_model.specs.Limits.{AreWithin}
use Rattle.universe_model.specs.Tokens.{token, token_of, choice_of, found_or}
use Rattle.universe_model.specs.Universes.{IsProblemOf, universe}
use Rattle.universe_model.specs.declared.TokenFault.{TokenFault}
use Rattle.universe_model.specs.declared.TokenFault.TheVariants.{NotAToken}
use Rattle.laws_universe.proofs.Choices.{tokens-inverse}
use Rattle.laws_universe.proofs.Universes.{universe-sound}
use Rattle.dialogue.specs.Lines.{is_level, level_of, is_most, most_of, cap_with, marking_of, command_of_words}
use Rattle.dialogue.specs.Sayings.{most_text, line_of, FitsMost, HasLine}
use Rattle.dialogue.proofs.Alphabets.{decimal-digits, decimal-visible, token-visible}

-- ---- words

-- a word has a byte, and no blank
record IsWord (text : List ℕ) : Type 0 where
  some : is_some_text text ≡ true
  whole : All (λ byte. is_space byte ≡ false) text

not_space : (byte : ℕ) → is_ascii_graphic byte ≡ true → is_space byte ≡ false
not_space byte h =
    let blank : (byte == 32) ≡ false = other_byte is_ascii_graphic 32 refl byte h in
    let tab : (byte == 9) ≡ false = other_byte is_ascii_graphic 9 refl byte h in
    rw (blank, tab) refl

word-of : (text : List ℕ) → is_some_of is_ascii_graphic text ≡ true → IsWord text
word-of text h =
    let both = and_parts (nat_lt 0 (length text)) (list_all is_ascii_graphic text) h in
    record {
      some = both.0;
      whole =
          All-weaker (λ byte. is_ascii_graphic byte ≡ true) (λ byte. is_space byte ≡ false) not_space text
          (AllPass-from_list_all is_ascii_graphic text both.1);
    }

words-one : (text : List ℕ) → IsWord text → words text ≡ text ∷ []
words-one text word = ap (filter is_some_text) (slice_split_none is_space text word.whole) ∙ rw word.some refl

words-front : (text rest : List ℕ) → IsWord text → words (text ++ 32 ∷ rest) ≡ text ∷ words rest
words-front text rest word = ap (filter is_some_text) (slice_split_at is_space text 32 rest word.whole refl) ∙ rw word.some refl

words-two : (text more : List ℕ) → IsWord text → IsWord more → words (text ++ 32 ∷ more) ≡ text ∷ (more ∷ [])
words-two text more word last = words-front text more word ∙ ap (λ ws. text ∷ ws) (words-one more last)

-- ---- tokens

is_token : {A : Type 0} (o : Option A) (next : A → Result ℕ TokenFault) (c : ℕ) → found_or NotAToken o next ≡ Ok c → (said : A) × (o ≡ Some said)
is_token None next c h = absurd (cc)
is_token (Some said) next c h = (said, refl)

-- ---- numbers

decimal-word : (n : ℕ) → n < 2 ^ 64 → IsWord (decimal n)
decimal-word n fits =
    let some : nat_lt 0 (length (decimal n)) ≡ true = lt-ltb 0 (length (decimal n)) (decimal_is_IsNumeral n fits).0.0 in
    word-of (decimal n)
    (and_from (nat_lt 0 (length (decimal n))) (list_all is_ascii_graphic (decimal n)) some (decimal-visible n))

-- a number of at most k digits
short-digits : (k n : ℕ) → 0 < k → n < 10 ^ k → n < 2 ^ 64 → (leb 1 (length (decimal n)) && leb (length (decimal n)) k && list_all is_ascii_digit (decimal n)) ≡ true
short-digits k n some small fits =
    let digits = decimal_is_IsNumeral n fits in
    let low : 1 ≤ length (decimal n) = omega (arith, digits.0.0) in
    and_from (leb 1 (length (decimal n)) && leb (length (decimal n)) k) (list_all is_ascii_digit (decimal n))
    (and_from (leb 1 (length (decimal n))) (leb (length (decimal n)) k) (le-leb 1 (length (decimal n)) low)
    (le-leb (length (decimal n)) k (length-decimal-le k n some small fits)))
    (decimal-digits n)

level-said : (level : ℕ) → level < 99 → level_of (decimal (level + 1)) ≡ Some level
level-said level small =
    let n : ℕ = level + 1 in
    let fits : n < 2 ^ 64 = omega arith in
    let first = first_decimal n (omega arith) fits in
    let front = short-digits 2 n (omega arith) (omega arith) fits in
    let is : is_level (decimal n) ≡ true =
    and_from (leb 1 (length (decimal n)) && leb (length (decimal n)) 2 && list_all is_ascii_digit (decimal n)) (not (get_or (decimal n) 0 0 == 48)) front
    (not_from_false (get_or (decimal n) 0 0 == 48) (ne_eqb (get_or (decimal n) 0 0) 48 (λ e. omega (arith, first)))) in
    let value = (decimal_is_IsNumeral n fits).1 in
    let back : digits_value 10 (decimal n) - 1 ≡ level = omega (arith, value) in
    cond-true (is_level (decimal n)) (Some (digits_value 10 (decimal n) - 1)) None is ∙ ap Some back

-- digits are not `off`
not_off : (ds : List ℕ) → list_all is_ascii_digit ds ≡ true → is_same ds (codes "off") ≡ false
not_off ds h = by (is_same ds (codes "off")) refl
  where
    by : (b : Bool) → is_same ds (codes "off") ≡ b → is_same ds (codes "off") ≡ false
    by true e =
        let clash : list_all is_ascii_digit (codes "off") ≡ true = subst (λ text. list_all is_ascii_digit text ≡ true) (is_same-equal ds (codes "off") e) h in
        absurd (cc)
    by false e = e

number-said : (most : ℕ) → most < 2 ^ 64 → most_of (decimal most) ≡ Some (Some most)
number-said most fits =
    let front = short-digits 20 most (omega arith) (omega arith) fits in
    let value = (decimal_is_IsNumeral most fits).1 in
    let small : digits_value 10 (decimal most) < 2 ^ 64 = omega (arith, value) in
    let is : is_most (decimal most) ≡ true =
    and_from (leb 1 (length (decimal most)) && leb (length (decimal most)) 20 && list_all is_ascii_digit (decimal most)) (nat_lt (digits_value 10 (decimal most)) (2 ^ 64)) front
    (lt-ltb (digits_value 10 (decimal most)) (2 ^ 64) small) in
    let number : Option (Option ℕ) = Some (Some (digits_value 10 (decimal most))) in
    cond-false (is_same (decimal most) (codes "off")) (Some None) (cond (is_most (decimal most)) number None) (not_off (decimal most) (decimal-digits most))
    ∙ cond-true (is_most (decimal most)) number None is
    ∙ ap (λ n. Some (Some n)) value

most-said : (most : Option ℕ) → FitsMost most → most_of (most_text most) ≡ Some most
most-said (Some most) fits = number-said most fits
most-said None fits = refl

most-word : (most : Option ℕ) → FitsMost most → IsWord (most_text most)
most-word (Some most) fits = decimal-word most fits
most-word None fits = word-of (codes "off") refl

-- ---- commands

module _ (texts : Texts) (within : AreWithin texts) (p : Problem) (beside : IsProblemOf (universe texts) p) where
  token-said : (c : ℕ) → is_choice p c ≡ true → choice_of (universe texts) p (token (universe texts) p c) ≡ Ok c
  token-said c h = tokens-inverse (universe texts) (universe-sound texts within) p beside c h

  token-shown : (c : ℕ) → is_choice p c ≡ true → is_some_of is_ascii_graphic (token (universe texts) p c) ≡ true
  token-shown c h =
      let said = is_token (token_of (token (universe texts) p c)) _ c (token-said c h) in
      token-visible (token (universe texts) p c) said.0 said.1

  token-word : (c : ℕ) → is_choice p c ≡ true → IsWord (token (universe texts) p c)
  token-word c h = word-of (token (universe texts) p c) (token-shown c h)

  -- the bytes of a choice's token are visible
  pub token-graphic : (c : ℕ) → is_choice p c ≡ true → list_all is_ascii_graphic (token (universe texts) p c) ≡ true
  token-graphic c h = (and_parts (nat_lt 0 (length (token (universe texts) p c))) (list_all is_ascii_graphic (token (universe texts) p c)) (token-shown c h)).1

  words-said : (said : Command) → HasLine p said → command_of_words (universe texts) p (words (line_of (universe texts) p said)) ≡ said
  words-said Next h = refl
  words-said Prev h = refl
  words-said (Reject c) h =
      ap (command_of_words (universe texts) p) (words-two (codes "reject") (token (universe texts) p c) (word-of (codes "reject") refl) (token-word c h))
      ∙ ap (marking_of mark.Rejected) (token-said c h)
  words-said (Approve c) h =
      ap (command_of_words (universe texts) p) (words-two (codes "approve") (token (universe texts) p c) (word-of (codes "approve") refl) (token-word c h))
      ∙ ap (marking_of mark.Approved) (token-said c h)
  words-said (Free c) h =
      ap (command_of_words (universe texts) p) (words-two (codes "free") (token (universe texts) p c) (word-of (codes "free") refl) (token-word c h))
      ∙ ap (marking_of mark.Free) (token-said c h)
  words-said (Cap level most) h =
      let n : ℕ = level + 1 in
      ap (λ rest. command_of_words (universe texts) p (words (codes "cap" ++ 32 ∷ rest))) (append_assoc (decimal n) (32 ∷ []) (most_text most))
      ∙ ap (command_of_words (universe texts) p)
      (words-front (codes "cap") (decimal n ++ 32 ∷ most_text most) (word-of (codes "cap") refl)
      ∙ ap (λ ws. codes "cap" ∷ ws) (words-two (decimal n) (most_text most) (decimal-word n (omega (arith, h.0))) (most-word most h.1)))
      ∙ ap (λ found. cap_with found (most_of (most_text most))) (level-said level h.0)
      ∙ ap (cap_with (Some level)) (most-said most h.1)
  words-said Rules h = refl
  words-said Summary h = refl
  words-said Accept h = refl
  words-said Quit h = refl
  words-said (Bad kind) h = absurd h

  pub line-said : (said : Command) → HasLine p said → (line : List ℕ) → words line ≡ words (line_of (universe texts) p said) → command_of_words (universe texts) p (words line) ≡ said
  line-said said h line same = ap (command_of_words (universe texts) p) same ∙ words-said said h
