-- Lists of the numbers of those that pass a test.
use Rattle.std.proofs.Common.{◌≡◌, ℕ, suc, ◌+◌, ◌<◌, ◌≤◌, List, [], ◌∷◌, ◌++◌, Bool, true, false, cond, ◌&&◌, ◌||◌, refl, sym, ap, ◌∙◌, length, map, get_or, add-zero, nat_lt, nat_eq, arith}
use Rattle.std.specs.List.{filter, flat_map, enumerate_from, list_all}
use Rattle.std.proofs.lemmas.Bool.{and_from, lt-ltb}
use Rattle.lists.specs.Sets.{is_rising, has}
use Rattle.universe_model.specs.Lists.{number_in}
use Rattle.meeting_index.specs.Numbers.{numbers_from}

or-cases : (p q n a b : Bool) → (((p && n) || a) || ((q && n) || b)) ≡ (((p || q) && n) || (a || b))
or-cases true q true a b = refl
or-cases true true false a b = refl
or-cases true false false a b = refl
or-cases false true true true b = refl
or-cases false true true false b = refl
or-cases false true false a b = refl
or-cases false false n a b = refl

module _ {A : Type 0} where
  -- one more in front
  cons-cases : (n : ℕ) (test : A → Bool) (x : A) (xs : List A) (c : ℕ) (b : Bool) → test x ≡ b
      → has (numbers_from n test (x ∷ xs)) c ≡ ((b && nat_eq n c) || has (numbers_from (n + 1) test xs) c)
  cons-cases n test x xs c true e = rw e refl
  cons-cases n test x xs c false e = rw e refl

  pub has-numbers_from : (n : ℕ) (test : A → Bool) (x : A) (xs : List A) (c : ℕ)
      → has (numbers_from n test (x ∷ xs)) c ≡ ((test x && nat_eq n c) || has (numbers_from (n + 1) test xs) c)
  has-numbers_from n test x xs c = cons-cases n test x xs c (test x) refl

  -- they are above what is below the first number, and below the number that would be next
  pub numbers_from-above : (m n : ℕ) (test : A → Bool) (xs : List A) → m < n → list_all (λ y. nat_lt m y) (numbers_from n test xs) ≡ true
  numbers_from-above m n test [] lt = refl
  numbers_from-above m n test (x ∷ xs) lt =
      elim (test x) as (λ b. list_all (λ y. nat_lt m y) (map (number_in {A = A}) (cond b ((n, x) ∷ filter (λ (numbered : ℕ × A). test numbered.1) (enumerate_from (n + 1) xs)) (filter (λ (numbered : ℕ × A). test numbered.1) (enumerate_from (n + 1) xs)))) ≡ true) [
        | true ↦ and_from (nat_lt m n) _ (lt-ltb m n lt) (numbers_from-above m (n + 1) test xs (omega arith))
        | false ↦ numbers_from-above m (n + 1) test xs (omega arith)
      ]

  pub numbers_from-below : (top n : ℕ) (test : A → Bool) (xs : List A) → n + length xs ≤ top → list_all (λ y. nat_lt y top) (numbers_from n test xs) ≡ true
  numbers_from-below top n test [] le = refl
  numbers_from-below top n test (x ∷ xs) le =
      elim (test x) as (λ b. list_all (λ y. nat_lt y top) (map (number_in {A = A}) (cond b ((n, x) ∷ filter (λ (numbered : ℕ × A). test numbered.1) (enumerate_from (n + 1) xs)) (filter (λ (numbered : ℕ × A). test numbered.1) (enumerate_from (n + 1) xs)))) ≡ true) [
        | true ↦ and_from (nat_lt n top) _ (lt-ltb n top (omega arith)) (numbers_from-below top (n + 1) test xs (omega arith))
        | false ↦ numbers_from-below top (n + 1) test xs (omega arith)
      ]

  pub numbers_from-rising : (n : ℕ) (test : A → Bool) (xs : List A) → is_rising (numbers_from n test xs) ≡ true
  numbers_from-rising n test [] = refl
  numbers_from-rising n test (x ∷ xs) =
      elim (test x) as (λ b. is_rising (map (number_in {A = A}) (cond b ((n, x) ∷ filter (λ (numbered : ℕ × A). test numbered.1) (enumerate_from (n + 1) xs)) (filter (λ (numbered : ℕ × A). test numbered.1) (enumerate_from (n + 1) xs)))) ≡ true) [
        | true ↦ and_from (list_all (λ y. nat_lt n y) (numbers_from (n + 1) test xs)) _ (numbers_from-above n (n + 1) test xs (omega arith)) (numbers_from-rising (n + 1) test xs)
        | false ↦ numbers_from-rising (n + 1) test xs
      ]

  -- none pass
  pub numbers_from-none : (n : ℕ) (test : A → Bool) (xs : List A) → ((x : A) → test x ≡ false) → numbers_from n test xs ≡ []
  numbers_from-none n test [] none = refl
  numbers_from-none n test (x ∷ xs) none = rw (none x) (numbers_from-none (n + 1) test xs none)

  -- two lists, one after another
  pub numbers_from-append : (n : ℕ) (test : A → Bool) (xs ys : List A) → numbers_from n test (xs ++ ys) ≡ numbers_from n test xs ++ numbers_from (n + length xs) test ys
  numbers_from-append n test [] ys = rw (add-zero n) refl
  numbers_from-append n test (x ∷ xs) ys =
      let rest = numbers_from-append (n + 1) test xs ys in
      let more : n + 1 + length xs ≡ n + length (x ∷ xs) = omega arith in
      elim (test x) as (λ b. map (number_in {A = A}) (cond b ((n, x) ∷ filter (λ (numbered : ℕ × A). test numbered.1) (enumerate_from (n + 1) (xs ++ ys))) (filter (λ (numbered : ℕ × A). test numbered.1) (enumerate_from (n + 1) (xs ++ ys))))
      ≡ map (number_in {A = A}) (cond b ((n, x) ∷ filter (λ (numbered : ℕ × A). test numbered.1) (enumerate_from (n + 1) xs)) (filter (λ (numbered : ℕ × A). test numbered.1) (enumerate_from (n + 1) xs))) ++ numbers_from (n + length (x ∷ xs)) test ys) [
        | true ↦ ap (λ zs. n ∷ zs) (rest ∙ ap (λ m. numbers_from (n + 1) test xs ++ numbers_from m test ys) more)
        | false ↦ rest ∙ ap (λ m. numbers_from (n + 1) test xs ++ numbers_from m test ys) more
      ]

  -- what f finds by the numbers of those that pass, where at each number it finds what g does at the item
  pub found_by_numbers : {B : Type 0} (n : ℕ) (test : A → Bool) (f : ℕ → List B) (g : A → List B) (xs : List A)
      → ((i : ℕ) (d : A) → i < length xs → f (n + i) ≡ g (get_or xs i d)) → flat_map f (numbers_from n test xs) ≡ flat_map g (filter test xs)
  found_by_numbers n test f g [] alike = refl
  found_by_numbers {B} n test f g (x ∷ xs) alike =
      let first : f n ≡ g x = ap f (sym (add-zero n)) ∙ alike 0 x (omega arith) in
      let rest : flat_map f (numbers_from (n + 1) test xs) ≡ flat_map g (filter test xs) =
      found_by_numbers (n + 1) test f g xs (λ i d lt. ap f (let e : n + 1 + i ≡ n + suc i = omega arith in e) ∙ alike (suc i) d (omega arith)) in
      elim (test x) as (λ b. flat_map f (map (number_in {A = A}) (cond b ((n, x) ∷ filter (λ (numbered : ℕ × A). test numbered.1) (enumerate_from (n + 1) xs)) (filter (λ (numbered : ℕ × A). test numbered.1) (enumerate_from (n + 1) xs))))
      ≡ flat_map g (cond b (x ∷ filter test xs) (filter test xs))) [
        | true ↦ ap (λ zs. zs ++ flat_map f (numbers_from (n + 1) test xs)) first ∙ ap (λ zs. g x ++ zs) rest
        | false ↦ rest
      ]

  -- the numbers of those that pass one of two tests
  pub has-numbers_from-or : (n : ℕ) (p q : A → Bool) (xs : List A) (c : ℕ)
      → (has (numbers_from n p xs) c || has (numbers_from n q xs) c) ≡ has (numbers_from n (λ x. p x || q x) xs) c
  has-numbers_from-or n p q [] c = refl
  has-numbers_from-or n p q (x ∷ xs) c =
      ap (λ b. b || has (numbers_from n q (x ∷ xs)) c) (has-numbers_from n p x xs c)
      ∙ ap (λ b. ((p x && nat_eq n c) || has (numbers_from (n + 1) p xs) c) || b) (has-numbers_from n q x xs c)
      ∙ or-cases (p x) (q x) (nat_eq n c) (has (numbers_from (n + 1) p xs) c) (has (numbers_from (n + 1) q xs) c)
      ∙ ap (λ b. ((p x || q x) && nat_eq n c) || b) (has-numbers_from-or (n + 1) p q xs c)
      ∙ sym (has-numbers_from n (λ y. p y || q y) x xs c)
