-- A number that `parse` reads is one that the command takes, where it is within the range.
use Rattle.std.proofs.Common.{◌≡◌, ◌<◌, ◌≤◌, ◌^◌, ℕ, Bool, true, false, List, Option, Some, None, ap, sym, ◌∙◌, if◌then◌else◌, refl}
use Rattle.std.specs.Str.Parse.{IsNumeral, digits_value, without_leading_plus}
use Rattle.clap.specs.ValueTests.{is_unsigned_in}
use Rattle.clap.specs.declared.builder.value_parser.ValueParser.TheVariants.{Unsigned}
use Rattle.clap.proofs.ValueTestLemmas.{accepts-Accepts, Accepts-accepts}
use Rattle.resolve_words.specs.Given.{number_in}

if-true : (b : Bool) (x : Option ℕ) → b ≡ true → (if b then x else None) ≡ x
if-true true x e = refl
if-true false x e = cc

if-false : (b : Bool) (x : Option ℕ) → (b ≡ true → ⊥) → (if b then x else None) ≡ None
if-false true x e = absurd (e refl)
if-false false x e = refl

pub number-within : (least most : ℕ) (text : List ℕ) (n : ℕ)
    → (IsNumeral 10 (without_leading_plus text) × (digits_value 10 (without_leading_plus text) < 2 ^ 64)) × (n ≡ digits_value 10 (without_leading_plus text))
    → least ≤ n → n ≤ most → Some n ≡ (if is_unsigned_in least most text then Some (number_in text) else None)
number-within least most text n read low high =
    let value : ℕ = digits_value 10 (without_leading_plus text) in
    let at_least : least ≤ value = rw (← read.1) low in
    let at_most : value ≤ most = rw (← read.1) high in
    ap Some read.1 ∙ sym (if-true (is_unsigned_in least most text) (Some value) (Accepts-accepts false (Unsigned least most) text (read.0.0, read.0.1, at_least, at_most)))

pub no-number : (least most : ℕ) (text : List ℕ)
    → ((IsNumeral 10 (without_leading_plus text) × (digits_value 10 (without_leading_plus text) < 2 ^ 64)) → ⊥)
    → None ≡ (if is_unsigned_in least most text then Some (number_in text) else None)
no-number least most text none =
    sym (if-false (is_unsigned_in least most text) (Some (number_in text)) (λ e. let taken = accepts-Accepts false (Unsigned least most) text e in none (taken.0, taken.1)))
