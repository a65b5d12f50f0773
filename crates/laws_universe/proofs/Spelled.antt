-- The texts of tokens are read as what they say.
use Rattle.std.proofs.Common.{◌≡◌, ℕ, ◌+◌, ◌-◌, ◌^◌, ◌<◌, ◌≤◌, Bool, true, false, not, cond, ◌&&◌, ◌==◌, List, [], ◌∷◌, ◌++◌, length, get_or, take, drop, refl, sym, ap, ◌∙◌, arith, All, Some, None, Option, append_assoc, length-append, decimal, le-leb, leb, eq-eqb, ne_eqb}
use Rattle.std.specs.Char.{is_ascii_digit}
use Rattle.std.specs.List.{list_any, list_all, position_or_len, before_first, after_first}
use Rattle.std.specs.Str.Parse.{digits_value, AllDigits}
use Rattle.std.proofs.lemmas.Bool.{and_from, and_parts, cond-true, cond-false, not_from_false}
use Rattle.std.proofs.lemmas.Fmt.{decimal_is_IsNumeral, length-decimal-le, first_decimal}
use Rattle.std.proofs.lemmas.List.{get_or_append_left, get_or_at, take_at, drop_at}
use Rattle.std.proofs.lemmas.List.Elements.{All-weaker, All-push}
use Rattle.std.proofs.lemmas.List.Folds.{list_any_none, list_any_at}
use Rattle.std.proofs.lemmas.List.Sums.{AllPass-from_list_all}
use Rattle.std.proofs.lemmas.Str.Parse.{digit_from_value}
use Rattle.deb_version.specs.Versions.{is_version}
use Rattle.dep_fields.specs.Tokens.{begins_with, is_name, is_name_byte}
use Rattle.ascii.proofs.Bytes.{other_byte}
use Rattle.dep_fields.proofs.VersionBytes.{is_version_byte, version-bytes}
use Rattle.std.specs.Char.{is_ascii_alphanumeric}
use Rattle.universe_model.specs.Limits.{most_groups}
use Rattle.universe_model.specs.Tokens.{Token, Removal, Release, Group, is_equals, is_slash, is_place, removal_token, release_token, group_token, version_token_of, token_of}
use Rattle.laws_universe.proofs.Places.{position-is}

-- ---- cuts

-- a byte does not occur
abbrev HasNone : ℕ → List ℕ → Type 0
HasNone mark text = All (λ byte. (byte == mark) ≡ false) text

module _ (p : ℕ → Bool) (xs : List ℕ) (y : ℕ) (ys : List ℕ) (none : All (λ x. p x ≡ false) xs) (at : p y ≡ true) where
  cut-within : length xs < length (xs ++ y ∷ ys)
  cut-within = omega (arith, length-append xs (y ∷ ys))

  cut-here : p (get_or (xs ++ y ∷ ys) (length xs) 0) ≡ true
  cut-here = ap p (get_or_at xs y ys 0 (length xs) refl) ∙ at

  cut-place : position_or_len p (xs ++ y ∷ ys) ≡ length xs
  cut-place =
      position-is p (xs ++ y ∷ ys) (length xs) 0 cut-within
      (λ k l. ap p (get_or_append_left xs (y ∷ ys) 0 k l) ∙ none k 0 l) cut-here

  cut-any : list_any p (xs ++ y ∷ ys) ≡ true
  cut-any = list_any_at p (xs ++ y ∷ ys) (length xs) 0 cut-within cut-here

  cut-before : before_first p (xs ++ y ∷ ys) ≡ xs
  cut-before = ap (λ n. take n (xs ++ y ∷ ys)) cut-place ∙ take_at xs (y ∷ ys) (length xs) refl

  cut-after : after_first p (xs ++ y ∷ ys) ≡ ys
  cut-after =
      let long : length (xs ++ y ∷ []) ≡ length xs + 1 = omega (arith, length-append xs (y ∷ [])) in
      ap (λ n. drop (n + 1) (xs ++ y ∷ ys)) cut-place
      ∙ ap (drop (length xs + 1)) (sym (append_assoc xs (y ∷ []) ys))
      ∙ drop_at (xs ++ y ∷ []) ys (length xs + 1) long

-- ---- alphabets

name-none : (mark : ℕ) → is_name_byte mark ≡ false → (name : List ℕ) → is_name name ≡ true → HasNone mark name
name-none mark out name h =
    All-weaker (λ byte. is_name_byte byte ≡ true) (λ byte. (byte == mark) ≡ false) (other_byte is_name_byte mark out) name
    (AllPass-from_list_all is_name_byte name (and_parts (begins_with is_ascii_alphanumeric name) (list_all is_name_byte name) h).1)

version-none : (mark : ℕ) → is_version_byte mark ≡ false → (version : List ℕ) → is_version version ≡ true → HasNone mark version
version-none mark out version h =
    All-weaker (λ byte. is_version_byte byte ≡ true) (λ byte. (byte == mark) ≡ false) (other_byte is_version_byte mark out) version
    (AllPass-from_list_all is_version_byte version (version-bytes version h))

-- ---- places

digits-pass : (digits : List ℕ) → AllDigits 10 digits → list_all is_ascii_digit digits ≡ true
digits-pass [] h = refl
digits-pass (c ∷ digits) h =
    let in' = digit_from_value c h.0 in
    and_from (is_ascii_digit c) (list_all is_ascii_digit digits)
    (and_from (leb 48 c) (leb c 57) (le-leb 48 c (omega (arith, in'))) (le-leb c 57 (omega (arith, in')))) (digits-pass digits h.1)

pub decimal-place : (place : ℕ) → 1 ≤ place → place ≤ most_groups → (is_place (decimal place) ≡ true) × (digits_value 10 (decimal place) ≡ place)
decimal-place place low high =
    let fits : place < 2 ^ 64 = omega arith in
    let small : place < 10 ^ 9 = omega arith in
    let digits = decimal_is_IsNumeral place fits in
    let short = length-decimal-le 9 place (omega arith) small fits in
    let first = first_decimal place (omega arith) fits in
    let nonempty : 1 ≤ length (decimal place) = omega (arith, digits.0.0) in (
      and_from (leb 1 (length (decimal place)) && leb (length (decimal place)) 9 && list_all is_ascii_digit (decimal place)) (not (get_or (decimal place) 0 0 == 48))
          (and_from (leb 1 (length (decimal place)) && leb (length (decimal place)) 9) (list_all is_ascii_digit (decimal place))
          (and_from (leb 1 (length (decimal place))) (leb (length (decimal place)) 9) (le-leb 1 (length (decimal place)) nonempty) (le-leb (length (decimal place)) 9 short))
          (digits-pass (decimal place) digits.0.1))
          (not_from_false (get_or (decimal place) 0 0 == 48) (ne_eqb (get_or (decimal place) 0 0) 48 (λ e. omega (arith, first)))),
      digits.1,
    )

-- ---- tokens

abbrev removal_at : List ℕ → ℕ → Option Token
removal_at text n = cond ((get_or text n 0 == 45) && is_name (take n text)) (Some (Removal (take n text))) None

pub removal-spelled : (name : List ℕ) → is_name name ≡ true → token_of (name ++ 45 ∷ []) ≡ Some (Removal name)
removal-spelled name h =
    let text : List ℕ = name ++ 45 ∷ [] in
    let none : All (λ byte. is_equals byte ≡ false) text = All-push (λ byte. is_equals byte ≡ false) name 45 (name-none 61 refl name h) refl in
    let last : length text - 1 ≡ length name = omega (arith, length-append name (45 ∷ [])) in
    let front : take (length name) text ≡ name = take_at name (45 ∷ []) (length name) refl in
    cond-false (list_any is_equals text) (version_token_of (before_first is_equals text) (after_first is_equals text)) (removal_token text) (list_any_none is_equals text none)
    ∙ ap (removal_at text) last
    ∙ cond-true ((get_or text (length name) 0 == 45) && is_name (take (length name) text)) (Some (Removal (take (length name) text))) None
    (and_from (get_or text (length name) 0 == 45) (is_name (take (length name) text)) (eq-eqb (get_or text (length name) 0) 45 (get_or_at name 45 [] 0 (length name) refl)) (ap is_name front ∙ h))
    ∙ ap (λ (n : List ℕ). Some (Removal n)) front

-- a name, '=' and the rest
with_rest-spelled : (name rest : List ℕ) → is_name name ≡ true → token_of (name ++ 61 ∷ rest) ≡ version_token_of name rest
with_rest-spelled name rest h =
    let text : List ℕ = name ++ 61 ∷ rest in
    let none : All (λ byte. is_equals byte ≡ false) name = name-none 61 refl name h in
    cond-true (list_any is_equals text) (version_token_of (before_first is_equals text) (after_first is_equals text)) (removal_token text) (cut-any is_equals name 61 rest none refl)
    ∙ ap (λ n. version_token_of n (after_first is_equals text)) (cut-before is_equals name 61 rest none refl)
    ∙ ap (version_token_of name) (cut-after is_equals name 61 rest none refl)

pub release-spelled : (name version : List ℕ) → is_name name ≡ true → is_version version ≡ true → token_of (name ++ 61 ∷ version) ≡ Some (Release name version)
release-spelled name version h k =
    with_rest-spelled name version h
    ∙ cond-false (list_any is_slash version) (group_token name (before_first is_slash version) (after_first is_slash version)) (release_token name version) (list_any_none is_slash version (version-none 47 refl version k))
    ∙ cond-true (is_name name && is_version version) (Some (Release name version)) None (and_from (is_name name) (is_version version) h k)

pub group-spelled : (name version : List ℕ) (place : ℕ) → is_name name ≡ true → is_version version ≡ true → 1 ≤ place → place ≤ most_groups
    → token_of ((name ++ 61 ∷ version) ++ (47 ∷ decimal place)) ≡ Some (Group name version place)
group-spelled name version place h k low high =
    let rest : List ℕ = version ++ 47 ∷ decimal place in
    let none : All (λ byte. is_slash byte ≡ false) version = version-none 47 refl version k in
    let digits = decimal-place place low high in
    ap token_of (append_assoc name (61 ∷ version) (47 ∷ decimal place))
    ∙ with_rest-spelled name rest h
    ∙ cond-true (list_any is_slash rest) (group_token name (before_first is_slash rest) (after_first is_slash rest)) (release_token name rest) (cut-any is_slash version 47 (decimal place) none refl)
    ∙ ap (λ v. group_token name v (after_first is_slash rest)) (cut-before is_slash version 47 (decimal place) none refl)
    ∙ ap (group_token name version) (cut-after is_slash version 47 (decimal place) none refl)
    ∙ cond-true (is_name name && is_version version && is_place (decimal place)) (Some (Group name version (digits_value 10 (decimal place)))) None
    (and_from (is_name name && is_version version) (is_place (decimal place)) (and_from (is_name name) (is_version version) h k) digits.0)
    ∙ ap (λ n. Some (Group name version n)) digits.1
