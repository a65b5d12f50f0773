-- The numbers of those that pass a test.
use Rattle.std.proofs.Common.{◌≡◌, ◌<◌, ◌+◌, ℕ, zero, suc, List, [], ◌∷◌, Bool, true, false, refl, arith, nat_eq}
use Rattle.std.proofs.lemmas.Bool.Decides.{nat_tests}
use Rattle.lists.specs.Sets.{is_rising, has}
use Rattle.universe_model.specs.Lists.{numbers_of}
use Rattle.meeting_index.specs.Numbers.{numbers_from}
use Rattle.meeting_index.proofs.Numbers.{numbers_from-rising}

-- whether the one with this number passes
abbrev pub passes : {A : Type 0} → (A → Bool) → List A → ℕ → Bool
passes test [] n = false
passes test (x ∷ xs) zero = test x
passes test (x ∷ xs) (suc n) = passes test xs n

numbers_yes : {A : Type 0} (n : ℕ) (test : A → Bool) (x : A) (xs : List A) → test x ≡ true → numbers_from n test (x ∷ xs) ≡ n ∷ numbers_from (n + 1) test xs
numbers_yes n test x xs e = rw e refl

numbers_no : {A : Type 0} (n : ℕ) (test : A → Bool) (x : A) (xs : List A) → test x ≡ false → numbers_from n test (x ∷ xs) ≡ numbers_from (n + 1) test xs
numbers_no n test x xs e = rw e refl

-- a fact of the numbers of a list with one more in front
numbers_cases : {A : Type 0} (P : List ℕ → Type 0) (n : ℕ) (test : A → Bool) (x : A) (xs : List A)
    → (test x ≡ true → P (n ∷ numbers_from (n + 1) test xs)) → (test x ≡ false → P (numbers_from (n + 1) test xs)) → P (numbers_from n test (x ∷ xs))
numbers_cases P n test x xs there not_there =
    elim (test x) as (λ r. test x ≡ r → P (numbers_from n test (x ∷ xs))) [
      | true ↦ λ e. rw (numbers_yes n test x xs e) (there e)
      | false ↦ λ e. rw (numbers_no n test x xs e) (not_there e)
    ] refl

none_before : {A : Type 0} (n c : ℕ) (test : A → Bool) (xs : List A) → c < n → has (numbers_from n test xs) c ≡ false
none_before n c test [] lt = refl
none_before n c test (x ∷ xs) lt =
    let rest = none_before (n + 1) c test xs (omega arith) in
    let apart : nat_eq n c ≡ false = grind (arith, nat_tests) in
    numbers_cases (λ ns. has ns c ≡ false) n test x xs (λ _. rw apart rest) (λ _. rest)

has_from : {A : Type 0} (n k c : ℕ) (test : A → Bool) (xs : List A) → c ≡ n + k → has (numbers_from n test xs) c ≡ passes test xs k
has_from n k c test [] e = refl
has_from n zero c test (x ∷ xs) e =
    let same : nat_eq n c ≡ true = grind (arith, nat_tests) in
    numbers_cases (λ ns. has ns c ≡ test x) n test x xs (λ t. rw (same, t) refl) (λ f. rw f (none_before (n + 1) c test xs (omega arith)))
has_from n (suc k) c test (x ∷ xs) e =
    let rest = has_from (n + 1) k c test xs (omega arith) in
    let apart : nat_eq n c ≡ false = grind (arith, nat_tests) in
    numbers_cases (λ ns. has ns c ≡ passes test xs k) n test x xs (λ _. rw apart rest) (λ _. rest)

pub numbers_rise : {A : Type 0} (test : A → Bool) (xs : List A) → is_rising (numbers_of test xs) ≡ true
numbers_rise test xs = numbers_from-rising 0 test xs

pub has_numbers : {A : Type 0} (test : A → Bool) (xs : List A) (c : ℕ) → has (numbers_of test xs) c ≡ passes test xs c
has_numbers test xs c = has_from 0 c c test xs (omega arith)
