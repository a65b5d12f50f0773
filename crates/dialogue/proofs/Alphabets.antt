-- The bytes of names, versions, numbers and tokens: all are visible.
use Rattle.std.proofs.Common.{◌≡◌, ℕ, zero, suc, ◌+◌, ◌-◌, ◌<◌, ◌/◌, ◌%◌, Bool, true, false, cond, not, ◌&&◌, ◌||◌, ◌==◌, List, [], ◌∷◌, length, take, drop, get_or, refl, subst, arith, Some, decimal, nat_lt}
use Rattle.std.specs.Char.{is_ascii_digit, is_ascii_graphic, is_ascii_alphanumeric}
use Rattle.std.specs.Fmt.{digits, digits_onto, digit_glyph}
use Rattle.std.specs.List.{list_all, list_any, position_or_len, before_first, after_first}
use Rattle.std.proofs.lemmas.Bool.{and_from, and_parts}
use Rattle.std.proofs.lemmas.Bool.Decides.{nat_tests}
use Rattle.std.proofs.lemmas.Option.{cond_some}
use Rattle.lists.proofs.Tests.{list_all_weaker}
use Rattle.ascii.specs.Texts.{is_some_of, begins}
use Rattle.deb_version.specs.Versions.{is_version}
use Rattle.dep_fields.specs.Tokens.{is_name, is_name_byte}
use Rattle.dep_fields.proofs.VersionBytes.{is_version_byte, version-bytes}
use Rattle.universe_model.specs.Tokens.{Token, Release, is_equals, is_slash, is_place, removal_token, release_token, group_token, version_token_of, token_of}

-- ---- alphabets

pub visible-digit : (b : ℕ) → is_ascii_digit b ≡ true → is_ascii_graphic b ≡ true
visible-digit b h = grind (arith, nat_tests)

pub visible-name_byte : (b : ℕ) → is_name_byte b ≡ true → is_ascii_graphic b ≡ true
visible-name_byte b h = grind (arith, nat_tests)

pub visible-version_byte : (b : ℕ) → is_version_byte b ≡ true → is_ascii_graphic b ≡ true
visible-version_byte b h = grind (arith, nat_tests)

visible-equals : (b : ℕ) → is_equals b ≡ true → is_ascii_graphic b ≡ true
visible-equals b h = grind (arith, nat_tests)

visible-slash : (b : ℕ) → is_slash b ≡ true → is_ascii_graphic b ≡ true
visible-slash b h = grind (arith, nat_tests)

visible-hyphen : (b : ℕ) → (b == 45) ≡ true → is_ascii_graphic b ≡ true
visible-hyphen b h = grind (arith, nat_tests)

-- ---- numbers

digit-glyph : (d : ℕ) → d < 10 → is_ascii_digit (digit_glyph false d) ≡ true
digit-glyph d h = grind (arith, nat_tests)

digits-onto : (k n : ℕ) (acc : List ℕ) → list_all is_ascii_digit acc ≡ true → list_all is_ascii_digit (digits_onto k 10 false n acc) ≡ true
digits-onto zero n acc h = h
digits-onto (suc k) n acc h =
    let small : n % 10 < 10 = omega arith in
    let more : list_all is_ascii_digit (digit_glyph false (n % 10) ∷ acc) ≡ true =
    and_from (is_ascii_digit (digit_glyph false (n % 10))) (list_all is_ascii_digit acc) (digit-glyph (n % 10) small) h in
    by (n / 10 == 0) more (digits-onto k (n / 10) (digit_glyph false (n % 10) ∷ acc) more)
  where
    by : (b : Bool) → list_all is_ascii_digit (digit_glyph false (n % 10) ∷ acc) ≡ true
        → list_all is_ascii_digit (digits_onto k 10 false (n / 10) (digit_glyph false (n % 10) ∷ acc)) ≡ true
        → list_all is_ascii_digit (cond b (digit_glyph false (n % 10) ∷ acc) (digits_onto k 10 false (n / 10) (digit_glyph false (n % 10) ∷ acc))) ≡ true
    by true here there = here
    by false here there = there

-- a number is written by digits
pub decimal-digits : (n : ℕ) → list_all is_ascii_digit (decimal n) ≡ true
unfolding digits
decimal-digits n = digits-onto 64 n [] refl

pub decimal-visible : (n : ℕ) → list_all is_ascii_graphic (decimal n) ≡ true
decimal-visible n = list_all_weaker is_ascii_digit is_ascii_graphic visible-digit (decimal n) (decimal-digits n)

-- ---- cuts

-- a text that is cut at a byte passes where both parts and that byte pass
list_all-cut : (p test : ℕ → Bool) → ((b : ℕ) → test b ≡ true → p b ≡ true) → (xs : List ℕ) → list_any test xs ≡ true
    → list_all p (before_first test xs) ≡ true → list_all p (after_first test xs) ≡ true → list_all p xs ≡ true
list_all-cut p test w [] any before after = absurd (cc)
list_all-cut p test w (x ∷ xs) any before after = by (test x) refl any before after (list_all-cut p test w xs)
  where
    n : ℕ
    n = position_or_len test xs

    by : (b : Bool) → test x ≡ b → (b || list_any test xs) ≡ true
        → list_all p (take (cond (not b) (1 + n) 0) (x ∷ xs)) ≡ true → list_all p (drop (cond (not b) (1 + n) 0 + 1) (x ∷ xs)) ≡ true
        → (list_any test xs ≡ true → list_all p (before_first test xs) ≡ true → list_all p (after_first test xs) ≡ true → list_all p xs ≡ true)
        → (p x && list_all p xs) ≡ true
    by true e any before after next = and_from (p x) (list_all p xs) (w x e) after
    by false e any before after next =
        let one : 1 + n ≡ suc n = omega arith in
        let two : (1 + n) + 1 ≡ suc (n + 1) = omega arith in
        let front : (p x && list_all p (take n xs)) ≡ true = subst (λ k. list_all p (take k (x ∷ xs)) ≡ true) one before in
        let back : list_all p (drop (n + 1) xs) ≡ true = subst (λ k. list_all p (drop k (x ∷ xs)) ≡ true) two after in
        let parts = and_parts (p x) (list_all p (take n xs)) front in
        and_from (p x) (list_all p xs) parts.0 (next any parts.1 back)

-- the last byte, and those before it
list_all-last : (p : ℕ → Bool) (x : ℕ) (xs : List ℕ) → list_all p (take (length (x ∷ xs) - 1) (x ∷ xs)) ≡ true → p (get_or (x ∷ xs) (length (x ∷ xs) - 1) 0) ≡ true
    → list_all p (x ∷ xs) ≡ true
list_all-last p x [] front last = and_from (p x) true last refl
list_all-last p x (y ∷ ys) front last =
    let at : length (x ∷ (y ∷ ys)) - 1 ≡ suc (length (y ∷ ys) - 1) = omega arith in
    let front' : (p x && list_all p (take (length (y ∷ ys) - 1) (y ∷ ys))) ≡ true = subst (λ k. list_all p (take k (x ∷ (y ∷ ys))) ≡ true) at front in
    let last' : p (get_or (y ∷ ys) (length (y ∷ ys) - 1) 0) ≡ true = subst (λ k. p (get_or (x ∷ (y ∷ ys)) k 0) ≡ true) at last in
    let parts = and_parts (p x) (list_all p (take (length (y ∷ ys) - 1) (y ∷ ys))) front' in
    and_from (p x) (list_all p (y ∷ ys)) parts.0 (list_all-last p y ys parts.1 last')

-- ---- tokens

name-visible : (name : List ℕ) → is_name name ≡ true → list_all is_ascii_graphic name ≡ true
name-visible name h =
    list_all_weaker is_name_byte is_ascii_graphic visible-name_byte name (and_parts (begins is_ascii_alphanumeric name) (list_all is_name_byte name) h).1

version-visible : (version : List ℕ) → is_version version ≡ true → list_all is_ascii_graphic version ≡ true
version-visible version h = list_all_weaker is_version_byte is_ascii_graphic visible-version_byte version (version-bytes version h)

place-visible : (digits : List ℕ) → is_place digits ≡ true → list_all is_ascii_graphic digits ≡ true
place-visible digits h =
    let front = (and_parts _ (not (get_or digits 0 0 == 48)) h).0 in
    list_all_weaker is_ascii_digit is_ascii_graphic visible-digit digits (and_parts _ (list_all is_ascii_digit digits) front).1

release-visible : (name version : List ℕ) (said : Token) → release_token name version ≡ Some said
    → (list_all is_ascii_graphic name ≡ true) × (list_all is_ascii_graphic version ≡ true)
release-visible name version said h =
    let both = and_parts (is_name name) (is_version version) (cond_some (is_name name && is_version version) (Release name version) said h).0 in
    (name-visible name both.0, version-visible version both.1)

rest-visible : (name rest : List ℕ) (said : Token) → version_token_of name rest ≡ Some said
    → (list_all is_ascii_graphic name ≡ true) × (list_all is_ascii_graphic rest ≡ true)
rest-visible name rest said h = by (list_any is_slash rest) refl h
  where
    version : List ℕ
    version = before_first is_slash rest

    place : List ℕ
    place = after_first is_slash rest

    by : (b : Bool) → list_any is_slash rest ≡ b → cond b (group_token name version place) (release_token name rest) ≡ Some said
        → (list_all is_ascii_graphic name ≡ true) × (list_all is_ascii_graphic rest ≡ true)
    by true any h =
        let parts = and_parts (is_name name && is_version version) (is_place place) (cond_some (is_name name && is_version version && is_place place) _ said h).0 in
        let both = and_parts (is_name name) (is_version version) parts.0 in
        (name-visible name both.0, list_all-cut is_ascii_graphic is_slash visible-slash rest any (version-visible version both.1) (place-visible place parts.1))
    by false none h = release-visible name rest said h

removal-visible : (text : List ℕ) (said : Token) → removal_token text ≡ Some said → list_all is_ascii_graphic text ≡ true
removal-visible [] said h = refl
removal-visible (x ∷ xs) said h =
    let n : ℕ = length (x ∷ xs) - 1 in
    let both = and_parts (get_or (x ∷ xs) n 0 == 45) (is_name (take n (x ∷ xs))) (cond_some ((get_or (x ∷ xs) n 0 == 45) && is_name (take n (x ∷ xs))) _ said h).0 in
    list_all-last is_ascii_graphic x xs (name-visible (take n (x ∷ xs)) both.1) (visible-hyphen (get_or (x ∷ xs) n 0) both.0)

-- each byte of a token is visible
token-bytes : (text : List ℕ) (said : Token) → token_of text ≡ Some said → list_all is_ascii_graphic text ≡ true
token-bytes text said h = by (list_any is_equals text) refl h
  where
    name : List ℕ
    name = before_first is_equals text

    rest : List ℕ
    rest = after_first is_equals text

    by : (b : Bool) → list_any is_equals text ≡ b → cond b (version_token_of name rest) (removal_token text) ≡ Some said → list_all is_ascii_graphic text ≡ true
    by true any h = let parts = rest-visible name rest said h in list_all-cut is_ascii_graphic is_equals visible-equals text any parts.0 parts.1
    by false none h = removal-visible text said h

-- and there is one
token-some : (text : List ℕ) (said : Token) → token_of text ≡ Some said → nat_lt 0 (length text) ≡ true
token-some [] said h = absurd (cc)
token-some (x ∷ xs) said h = grind (arith, nat_tests)

-- a token is a word of visible bytes
pub token-visible : (text : List ℕ) (said : Token) → token_of text ≡ Some said → is_some_of is_ascii_graphic text ≡ true
token-visible text said h = and_from (nat_lt 0 (length text)) (list_all is_ascii_graphic text) (token-some text said h) (token-bytes text said h)
