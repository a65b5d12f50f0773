-- Runs of digits are compared as numbers by their lengths and bytes, once leading zeros are dropped.
use Rattle.std.proofs.Common.{◌≡◌, ℕ, suc, ◌+◌, ◌*◌, ◌<◌, ◌≤◌, ◌≢◌, List, [], ◌∷◌, Bool, true, false, cond, length, drop, refl, ap, sym, ◌∙◌, arith, ◌==◌}
use Rattle.std.specs.List.{list_all, prefix_len}
use Rattle.std.specs.Char.{is_ascii_digit, digit_value}
use Rattle.std.specs.Str.Parse.{digits_value_after}
use Rattle.std.specs.Cmp.Lexicographic.{slice_cmp}
use Rattle.std.specs.declared.cmp.Ordering.{Ordering}
use Rattle.std.specs.declared.cmp.Ordering.TheVariants.{Less, Equal, Greater}
use Rattle.std.specs.Ordering.{nat_cmp, ordering_then, MatchOrdering}
use Rattle.std.specs.Cmp.{nat_cmp_is, ranks}
use Rattle.std.proofs.lemmas.Bool.{and_parts}
use Rattle.std.proofs.lemmas.Bool.Decides.{nat_tests}
use Rattle.ascii.specs.Decimals.{number}
use Rattle.ascii.proofs.Decimals.{Digit, digit_from}

abbrev after : ℕ → List ℕ → ℕ
after n ds = digits_value_after 10 n ds

-- digits behind a lesser number write a lesser number, if they are no more
after_less : (n m : ℕ) (ds es : List ℕ) → list_all is_ascii_digit ds ≡ true → list_all is_ascii_digit es ≡ true → length ds ≤ length es → n < m → after n ds < after m es
after_less n m [] [] p q s lt = lt
after_less n m (d ∷ ds) [] p q s lt = absurd (omega arith)
after_less n m [] (e ∷ es) p q s lt =
    after_less n (m * 10 + digit_value e) [] es p (and_parts (is_ascii_digit e) (list_all is_ascii_digit es) q).1 (omega arith) (omega arith)
after_less n m (d ∷ ds) (e ∷ es) p q s lt =
    let ps = and_parts (is_ascii_digit d) (list_all is_ascii_digit ds) p in
    let qs = and_parts (is_ascii_digit e) (list_all is_ascii_digit es) q in
    let small : digit_value d ≤ 9 = omega (arith, (digit_from d ps.0).value, (digit_from d ps.0).high) in
    after_less (n * 10 + digit_value d) (m * 10 + digit_value e) ds es ps.1 qs.1 (omega arith) (omega (arith, small))

-- as many digits behind one number are compared as their bytes are
after_cmp : (n : ℕ) (ds es : List ℕ) → list_all is_ascii_digit ds ≡ true → list_all is_ascii_digit es ≡ true → length ds ≡ length es → slice_cmp nat_cmp ds es ≡ nat_cmp (after n ds) (after n es)
after_cmp n [] [] p q s = nat_cmp_is n n Equal refl
after_cmp n [] (e ∷ es) p q s = absurd (omega arith)
after_cmp n (d ∷ ds) [] p q s = absurd (omega arith)
after_cmp n (d ∷ ds) (e ∷ es) p q s =
    let ps = and_parts (is_ascii_digit d) (list_all is_ascii_digit ds) p in
    let qs = and_parts (is_ascii_digit e) (list_all is_ascii_digit es) q in
    let dv = digit_from d ps.0 in
    let ev = digit_from e qs.0 in
    let size : length ds ≡ length es = omega arith in
    let left : MatchOrdering (nat_cmp d e) (d < e) (d ≡ e) (e < d) = ranks d e in
    by_first n d e ds es (nat_cmp d e) left ps.1 qs.1 dv ev size (after_cmp (n * 10 + digit_value d) ds es ps.1 qs.1 size)
  where
    by_first : (n d e : ℕ) (ds es : List ℕ) (r : Ordering) → MatchOrdering r (d < e) (d ≡ e) (e < d) → list_all is_ascii_digit ds ≡ true → list_all is_ascii_digit es ≡ true → Digit d → Digit e → length ds ≡ length es → slice_cmp nat_cmp ds es ≡ nat_cmp (after (n * 10 + digit_value d) ds) (after (n * 10 + digit_value d) es) → ordering_then r (slice_cmp nat_cmp ds es) ≡ nat_cmp (after (n * 10 + digit_value d) ds) (after (n * 10 + digit_value e) es)
    by_first n d e ds es Less lt p q dv ev s same =
        let less : n * 10 + digit_value d < n * 10 + digit_value e = omega (arith, dv.value, ev.value, dv.low, ev.low, lt) in
        nat_cmp_is _ _ Less (after_less (n * 10 + digit_value d) (n * 10 + digit_value e) ds es p q (omega arith) less)
    by_first n d e ds es Equal eq p q dv ev s same = same ∙ ap (λ k. nat_cmp (after (n * 10 + digit_value d) ds) (after (n * 10 + digit_value k) es)) eq
    by_first n d e ds es Greater gt p q dv ev s same =
        let less : n * 10 + digit_value e < n * 10 + digit_value d = omega (arith, dv.value, ev.value, dv.low, ev.low, gt) in
        nat_cmp_is _ _ Greater (after_less (n * 10 + digit_value e) (n * 10 + digit_value d) es ds q p (omega arith) less)

-- ---- leading zeros

abbrev pub is_zero : ℕ → Bool
is_zero byte = byte == 48

abbrev pub without_zeros : List ℕ → List ℕ
without_zeros ds = drop (prefix_len is_zero ds) ds

-- zeros in front change no number
number-without_zeros : (ds : List ℕ) → number (without_zeros ds) ≡ number ds
number-without_zeros [] = refl
number-without_zeros (d ∷ ds) =
    elim (is_zero d) as (λ b. is_zero d ≡ b → number (drop (cond b (1 + prefix_len is_zero ds) 0) (d ∷ ds)) ≡ number (d ∷ ds)) [
      | true ↦ λ t.
          let next : 1 + prefix_len is_zero ds ≡ suc (prefix_len is_zero ds) = omega arith in
          let zero_byte : d ≡ 48 = grind (arith, nat_tests) in
          let same : after (0 * 10 + digit_value d) ds ≡ number ds = ap (λ k. after (0 * 10 + digit_value k) ds) zero_byte in
          rw next (number-without_zeros ds ∙ sym same)
      | false ↦ λ _. refl
    ] refl

digits-without_zeros : (ds : List ℕ) → list_all is_ascii_digit ds ≡ true → list_all is_ascii_digit (without_zeros ds) ≡ true
digits-without_zeros [] h = refl
digits-without_zeros (d ∷ ds) h =
    let next : 1 + prefix_len is_zero ds ≡ suc (prefix_len is_zero ds) = omega arith in
    elim (is_zero d) as (λ b. list_all is_ascii_digit (drop (cond b (1 + prefix_len is_zero ds) 0) (d ∷ ds)) ≡ true) [
      | true ↦ rw next (digits-without_zeros ds (and_parts (is_ascii_digit d) (list_all is_ascii_digit ds) h).1)
      | false ↦ h
    ]

-- the first digit left is none
abbrev StartsUp : List ℕ → Type 0
StartsUp [] = Unit {0}
StartsUp (d ∷ ds) = d ≢ 48

starts_up : (ds : List ℕ) → StartsUp (without_zeros ds)
starts_up [] = tt
starts_up (d ∷ ds) =
    let next : 1 + prefix_len is_zero ds ≡ suc (prefix_len is_zero ds) = omega arith in
    elim (is_zero d) as (λ b. is_zero d ≡ b → StartsUp (drop (cond b (1 + prefix_len is_zero ds) 0) (d ∷ ds))) [
      | true ↦ λ _. rw next (starts_up ds)
      | false ↦ λ t. let other : d ≢ 48 = grind (arith, nat_tests) in other
    ] refl

-- more digits, the first of which is not 0, write a greater number
longer_more : (ds es : List ℕ) → list_all is_ascii_digit ds ≡ true → list_all is_ascii_digit es ≡ true → StartsUp es → length ds < length es → number ds < number es
longer_more ds [] p q up lt = absurd (omega arith)
longer_more ds (e ∷ es) p q up lt =
    let qs = and_parts (is_ascii_digit e) (list_all is_ascii_digit es) q in
    let ev = digit_from e qs.0 in
    let some : 0 < 0 * 10 + digit_value e = omega (arith, ev.value, ev.low, up) in
    after_less 0 (0 * 10 + digit_value e) ds es p qs.1 (omega arith) some

by_length : (ds es : List ℕ) (r : Ordering) → MatchOrdering r (length ds < length es) (length ds ≡ length es) (length es < length ds) → list_all is_ascii_digit ds ≡ true → list_all is_ascii_digit es ≡ true → StartsUp ds → StartsUp es → ordering_then r (slice_cmp nat_cmp ds es) ≡ nat_cmp (number ds) (number es)
by_length ds es Less lt p q u v = nat_cmp_is (number ds) (number es) Less (longer_more ds es p q v lt)
by_length ds es Equal eq p q u v = after_cmp 0 ds es p q eq
by_length ds es Greater gt p q u v = nat_cmp_is (number ds) (number es) Greater (longer_more es ds q p u gt)

pub numbers_cmp : (ds es : List ℕ) → list_all is_ascii_digit ds ≡ true → list_all is_ascii_digit es ≡ true → ordering_then (nat_cmp (length (without_zeros ds)) (length (without_zeros es))) (slice_cmp nat_cmp (without_zeros ds) (without_zeros es)) ≡ nat_cmp (number ds) (number es)
numbers_cmp ds es p q =
    by_length (without_zeros ds) (without_zeros es) (nat_cmp (length (without_zeros ds)) (length (without_zeros es))) (ranks (length (without_zeros ds)) (length (without_zeros es)))
    (digits-without_zeros ds p) (digits-without_zeros es q) (starts_up ds) (starts_up es)
    ∙ (λ i. nat_cmp (number-without_zeros ds i) (number-without_zeros es i))
