-- The number that digits write, digit by digit.
use Rattle.std.proofs.Common.{◌≡◌, ◌<◌, ◌≤◌, ◌+◌, ◌-◌, ◌*◌, ◌^◌, ℕ, zero, suc, Bool, true, false, cond, Some, None, List, [], ◌∷◌, ◌++◌, length, take, arith, refl, ap, ◌∙◌, get_or, add-one, add-zero, add-suc, nat_lt}
use Rattle.std.proofs.Math.Nat.{pow-suc}
use Rattle.std.proofs.Math.Dec.{leb}
use Rattle.std.proofs.lemmas.Bool.{and_parts, leb-true}
use Rattle.std.proofs.lemmas.List.Folds.{list_all_at}
use Rattle.std.proofs.lemmas.Int.Digits.{digits_value_more}
use Rattle.std.proofs.lemmas.Str.{digit_value_digit}
use Rattle.std.specs.Char.{is_ascii_digit, digit_value}
use Rattle.std.proofs.lemmas.Bool.Decides.{nat_tests}
use Rattle.std.proofs.lemmas.Str.Parse.{digits_value-take-le}
use Rattle.std.specs.List.{list_all}
use Rattle.std.specs.Str.Parse.{digits_value_after}
use Rattle.ascii.specs.Decimals.{number}

-- the value of a digit
pub record Digit (c : ℕ) : Type 0 where
  pub low : 48 ≤ c
  pub high : c ≤ 57
  pub value : digit_value c ≡ c - 48

pub digit_from : (c : ℕ) → is_ascii_digit c ≡ true → Digit c
digit_from c h =
    let both = and_parts (leb 48 c) (leb c 57) h in
    let low = leb-true 48 c both.0 in
    let high = leb-true c 57 both.1 in
    record { low = low; high = high; value = omega (arith, digit_value_digit c (low, high)) }

all-cases : (ds : List ℕ) (i : ℕ) (b : Bool) → is_ascii_digit (get_or ds i 0) ≡ b → list_all is_ascii_digit ds ≡ true → i < length ds → is_ascii_digit (get_or ds i 0) ≡ true
all-cases ds i true is all h = is
all-cases ds i false is all h = let none = list_all_at is_ascii_digit ds i 0 h is in absurd (cc)

-- a byte of digits is one
pub digit_at : (ds : List ℕ) (i : ℕ) → list_all is_ascii_digit ds ≡ true → i < length ds → Digit (get_or ds i 0)
digit_at ds i all h = digit_from (get_or ds i 0) (all-cases ds i (is_ascii_digit (get_or ds i 0)) refl all h)

-- ten times as much at least, for each place more
tens : (i k : ℕ) → 10 ^ i ≤ 10 ^ (i + k)
tens i zero = omega (arith, ap (λ n. 10 ^ n) (add-zero i))
tens i (suc k) = omega (arith, pow-suc 10 (i + k), tens i k, ap (λ n. 10 ^ n) (add-suc i k))

-- the number with one digit more
pub number-more : (ds : List ℕ) (i value : ℕ) → list_all is_ascii_digit ds ≡ true → i < length ds → value ≡ number (take i ds)
    → value * 10 + (get_or ds i 0 - 48) ≡ number (take (i + 1) ds)
number-more ds i value all h is =
    let more = digits_value_more 10 ds i h in
    let digit = digit_at ds i all h in
    omega (arith, more, is, digit.low, digit.value)

pub number-short : (ds : List ℕ) (i value : ℕ) → list_all is_ascii_digit ds ≡ true → i < length ds → value < 10 ^ i → value * 10 + (get_or ds i 0 - 48) < 10 ^ (i + 1)
number-short ds i value all h less =
    let digit = digit_at ds i all h in
    rw add-one (omega (arith, pow-suc 10 i, less, digit.low, digit.high))

-- up to nine digits
pub number-small : (i n value : ℕ) → i < n → n < 10 → value < 10 ^ i → value < 100000000
number-small i n value h few less =
    let most = tens i (8 - i) in
    let up : i + (8 - i) ≡ 8 = omega arith in
    let same = ap (λ k. 10 ^ k) up in
    omega (arith, most, same, less)

after-push : (n : ℕ) (ds : List ℕ) (d : ℕ) → digits_value_after 10 n (ds ++ d ∷ []) ≡ digits_value_after 10 n ds * 10 + digit_value d
after-push n [] d = refl
after-push n (c ∷ ds) d = after-push (n * 10 + digit_value c) ds d

-- digits with one behind them
pub number-push : (ds : List ℕ) (d : ℕ) → is_ascii_digit d ≡ true → number (ds ++ d ∷ []) ≡ number ds * 10 + (d - 48)
number-push ds d h = after-push 0 ds d ∙ ap (λ v. number ds * 10 + v) (digit_from d h).value

-- a number that is past a bound after some digits is past it after all
pub number-past : (ds : List ℕ) (i value most : ℕ) → list_all is_ascii_digit ds ≡ true → i < length ds → value ≡ number (take i ds)
    → nat_lt (value * 10 + (get_or ds i 0 - 48)) most ≡ false → nat_lt (number ds) most ≡ false
number-past ds i value most all h is past =
    let more = number-more ds i value all h is in
    let upto : number (take (i + 1) ds) ≤ number ds = digits_value-take-le 10 ds (i + 1) (omega arith) in
    grind (arith, nat_tests)

-- what a bound leaves of a number
pub cut-some : (n most value : ℕ) → cond (nat_lt n most) (Some n) None ≡ Some value → (value ≡ n) × (nat_lt n most ≡ true)
cut-some n most value h = by (nat_lt n most) refl h
  where
    by : (b : Bool) → nat_lt n most ≡ b → cond b (Some n) None ≡ Some value → (value ≡ n) × (nat_lt n most ≡ true)
    by true e h = ((cc), e)
    by false e h = absurd (cc)

pub cut-none : (n most : ℕ) → cond (nat_lt n most) (Some n) None ≡ None → nat_lt n most ≡ false
cut-none n most h = by (nat_lt n most) refl h
  where
    by : (b : Bool) → nat_lt n most ≡ b → cond b (Some n) None ≡ None → nat_lt n most ≡ false
    by true e h = absurd (cc)
    by false e h = e
