-- The first element than which none is later.
use Rattle.std.proofs.Common.{◌≡◌, ℕ, ◌+◌, List, [], ◌∷◌, ◌++◌, Bool, true, false, not, cond, ◌||◌, if◌then◌else◌, refl, sym, ap, ◌∙◌, length, arith, append_assoc, append-nil, zero-add, add-zero}
use Rattle.std.proofs.lemmas.List.{length_push}
use Rattle.std.specs.List.{list_any, list_all, position_or_len}
use Rattle.std.proofs.Math.Bool.{or-true}
use Rattle.std.proofs.lemmas.Bool.{and_from, not-true}
use Rattle.lists.proofs.Tests.{list_all-join, list_all_weaker}
use Rattle.lists.proofs.Truth.{and_first, and_second}

module _ {A : Type 0} where
  pub position-skip : (p : A → Bool) (xs ys : List A) → list_all (λ x. not (p x)) xs ≡ true → position_or_len p (xs ++ ys) ≡ length xs + position_or_len p ys
  position-skip p [] ys h = sym (zero-add (position_or_len p ys))
  position-skip p (x ∷ xs) ys h =
      ap (λ b. cond b (1 + position_or_len p (xs ++ ys)) 0) (and_first (not (p x)) (list_all (λ z. not (p z)) xs) h)
      ∙ ap (λ n. 1 + n) (position-skip p xs ys (and_second (not (p x)) (list_all (λ z. not (p z)) xs) h))
      ∙ omega arith

  pub position-here : (p : A → Bool) (x : A) (xs : List A) → p x ≡ true → position_or_len p (x ∷ xs) ≡ 0
  position-here p x xs h = ap (λ b. cond (not b) (1 + position_or_len p xs) 0) h

  pub list_any-inside : (p : A → Bool) (xs : List A) (y : A) (ys : List A) → p y ≡ true → list_any p (xs ++ y ∷ ys) ≡ true
  list_any-inside p [] y ys h = ap (λ b. b || list_any p ys) h
  list_any-inside p (x ∷ xs) y ys h = ap (λ b. p x || b) (list_any-inside p xs y ys h) ∙ or-true (p x)

  pub list_any-nowhere : (p : A → Bool) (xs : List A) → list_all (λ x. not (p x)) xs ≡ true → list_any p xs ≡ false
  list_any-nowhere p [] h = refl
  list_any-nowhere p (x ∷ xs) h =
      ap (λ b. b || list_any p xs) (not-true (p x) (and_first (not (p x)) (list_all (λ z. not (p z)) xs) h))
      ∙ list_any-nowhere p xs (and_second (not (p x)) (list_all (λ z. not (p z)) xs) h)

-- whether none of xs is later
abbrev pub top : {A : Type 0} → (A → A → Bool) → List A → A → Bool
top later xs x = not (list_any (λ other. later other x) xs)

-- The place of the first of the latest ones: of b, which has place k, and of those that follow, from place n on.
abbrev pub best_from : {A : Type 0} → (A → A → Bool) → A → ℕ → ℕ → List A → ℕ
best_from later b k n [] = k
best_from later b k n (x ∷ xs) = if later x b then best_from later x n (n + 1) xs else best_from later b k (n + 1) xs

pub record IsLater {A : Type 0} (later : A → A → Bool) : Type 0 where
  pub itself : (x : A) → later x x ≡ false
  pub back : (x y : A) → later x y ≡ true → later y x ≡ false
  pub above : (x b c : A) → later x b ≡ true → later c b ≡ false → later x c ≡ true

module _ {A : Type 0} (later : A → A → Bool) (laws : IsLater later) where
  hidden : (xs : List A) (b : A) (ys : List A) (x : A) → later b x ≡ true → not (top later (xs ++ b ∷ ys) x) ≡ true
  hidden xs b ys x up = ap (λ t. not (not t)) (list_any-inside (λ other. later other x) xs b ys up)

  -- b is the first of the latest ones
  place-best : (xs : List A) (b : A) (ys : List A) → list_all (later b) xs ≡ true → list_all (λ y. not (later y b)) ys ≡ true
      → position_or_len (top later (xs ++ b ∷ ys)) (xs ++ b ∷ ys) ≡ length xs
  place-best xs b ys h k =
      position-skip (top later (xs ++ b ∷ ys)) xs (b ∷ ys)
      (list_all_weaker (later b) (λ x. not (top later (xs ++ b ∷ ys) x)) (hidden xs b ys) xs h)
      ∙ ap (λ n. length xs + n) (position-here (top later (xs ++ b ∷ ys)) b ys
      (ap not (list_any-nowhere (λ other. later other b) (xs ++ b ∷ ys)
      (list_all-join (λ other. not (later other b)) xs (b ∷ ys)
      (list_all_weaker (later b) (λ x. not (later x b)) (λ x up. ap not (laws.back b x up)) xs h)
      (and_from (not (later b b)) (list_all (λ y. not (later y b)) ys) (ap not (laws.itself b)) k)))))
      ∙ add-zero (length xs)

  all-above : (x b : A) → later x b ≡ true → (xs ys : List A) → list_all (later b) xs ≡ true → list_all (λ y. not (later y b)) ys ≡ true
      → list_all (later x) (xs ++ b ∷ ys) ≡ true
  all-above x b up xs ys h k =
      list_all-join (later x) xs (b ∷ ys)
      (list_all_weaker (later b) (later x) (λ a below. laws.above x b a up (laws.back b a below)) xs h)
      (and_from (later x b) (list_all (later x) ys) up
      (list_all_weaker (λ y. not (later y b)) (later x) (λ y out. laws.above x b y up (not-true (later y b) out)) ys k))

  Best : List A → A → List A → List A → Type 0
  Best xs b ys zs =
      best_from later b (length xs) (length (xs ++ b ∷ ys)) zs ≡ position_or_len (top later ((xs ++ b ∷ ys) ++ zs)) ((xs ++ b ∷ ys) ++ zs)

  best-cases : (xs : List A) (b : A) (ys : List A) (z : A) (zs : List A) (t : Bool) → later z b ≡ t
      → (list_all (later z) (xs ++ b ∷ ys) ≡ true → Best (xs ++ b ∷ ys) z [] zs)
      → (list_all (λ y. not (later y b)) (ys ++ z ∷ []) ≡ true → Best xs b (ys ++ z ∷ []) zs)
      → list_all (later b) xs ≡ true → list_all (λ y. not (later y b)) ys ≡ true
      → (if t then best_from later z (length (xs ++ b ∷ ys)) (length (xs ++ b ∷ ys) + 1) zs else best_from later b (length xs) (length (xs ++ b ∷ ys) + 1) zs)
      ≡ position_or_len (top later ((xs ++ b ∷ ys) ++ z ∷ zs)) ((xs ++ b ∷ ys) ++ z ∷ zs)
  unfolding Best
  best-cases xs b ys z zs true e one other h k =
      let w : List A = xs ++ b ∷ ys in
      ap (λ n. best_from later z (length w) n zs) (sym (length_push w z))
      ∙ one (all-above z b e xs ys h k)
      ∙ ap (λ all. position_or_len (top later all) all) (append_assoc w (z ∷ []) zs)
  best-cases xs b ys z zs false e one other h k =
      let w : List A = xs ++ b ∷ ys in
      let more : xs ++ b ∷ (ys ++ z ∷ []) ≡ w ++ z ∷ [] = sym (append_assoc xs (b ∷ ys) (z ∷ [])) in
      ap (λ n. best_from later b (length xs) n zs) (sym (ap length more ∙ length_push w z))
      ∙ other (list_all-join (λ y. not (later y b)) ys (z ∷ []) k (and_from (not (later z b)) true (ap not e) refl))
      ∙ ap (λ all. position_or_len (top later all) all) (ap (λ front. front ++ zs) more ∙ append_assoc w (z ∷ []) zs)

  best_from-place : (xs : List A) (b : A) (ys zs : List A) → list_all (later b) xs ≡ true → list_all (λ y. not (later y b)) ys ≡ true → Best xs b ys zs
  unfolding Best
  best_from-place xs b ys [] h k =
      sym (place-best xs b ys h k) ∙ ap (λ all. position_or_len (top later all) all) (sym (append-nil (xs ++ b ∷ ys)))
  best_from-place xs b ys (z ∷ zs) h k =
      best-cases xs b ys z zs (later z b) refl
      (λ above. best_from-place (xs ++ b ∷ ys) z [] zs above refl)
      (λ none. best_from-place xs b (ys ++ z ∷ []) zs h none)
      h k

  -- of a whole list, from its first element
  pub best_from-whole : (x : A) (xs : List A) → best_from later x 0 0 (x ∷ xs) ≡ position_or_len (top later (x ∷ xs)) (x ∷ xs)
  unfolding Best
  best_from-whole x xs =
      ap (λ t. if t then best_from later x 0 1 xs else best_from later x 0 1 xs) (laws.itself x)
      ∙ best_from-place [] x [] xs refl refl
