-- One number that passes, and whether some version meets an item.
use Rattle.std.proofs.Common.{◌≡◌, ℕ, ◌+◌, List, [], ◌∷◌, Bool, true, false, ◌&&◌, ◌||◌, nat_eq, Option, Some, None, is_some, eq-eqb, refl, sym, ap, ◌∙◌}
use Rattle.std.specs.List.{list_any}
use Rattle.lists.specs.Sets.{has}
use Rattle.universe_model.specs.Lists.{numbers_of}
use Rattle.meeting_index.specs.Finding.{Finds}
use Rattle.meeting_index.specs.Numbers.{numbers_from}
use Rattle.meeting_index.proofs.Numbers.{has-numbers_from}

-- two tests that are alike find the same
pub finds-alike : (f g : ℕ → Bool) (found : Option ℕ) → ((c : ℕ) → f c ≡ g c) → Finds f found → Finds g found
finds-alike f g None alike finds = λ c. sym (alike c) ∙ finds c
finds-alike f g (Some c) alike finds = sym (alike c) ∙ finds

same-number : (n : ℕ) → nat_eq n n ≡ true
same-number n = eq-eqb n n refl

or-left : (a b : Bool) → (a || b) ≡ false → a ≡ false
or-left true b e = e
or-left false b e = refl

or-right : (a b : Bool) → (a || b) ≡ false → b ≡ false
or-right true b e = absurd (cc)
or-right false b e = e

and-left : (a b : Bool) → b ≡ true → (a && b) ≡ false → a ≡ false
and-left true b e f = absurd (cc)
and-left false b e f = refl

or-parts : (a b n c : Bool) → (b ≡ true → c ≡ true) → ((a && n) || b) ≡ true → (a || c) ≡ true
or-parts true b n c h e = refl
or-parts false b n c h e = h e

module _ {A : Type 0} (test : A → Bool) where
  -- a number is that of one that passes
  some-number : (n : ℕ) (xs : List A) (c : ℕ) → has (numbers_from n test xs) c ≡ true → list_any test xs ≡ true
  some-number n [] c h = absurd (cc)
  some-number n (x ∷ xs) c h =
      or-parts (test x) (has (numbers_from (n + 1) test xs) c) (nat_eq n c) (list_any test xs) (some-number (n + 1) xs c) (sym (has-numbers_from n test x xs c) ∙ h)

  -- where there is no number, none passes
  no-number : (n : ℕ) (xs : List A) → ((c : ℕ) → has (numbers_from n test xs) c ≡ false) → list_any test xs ≡ false
  no-number n [] none = refl
  no-number n (x ∷ xs) none =
      let parts = λ (c : ℕ). sym (has-numbers_from n test x xs c) ∙ none c in
      ap (λ b. b || list_any test xs) (and-left (test x) (nat_eq n n) (same-number n) (or-left (test x && nat_eq n n) (has (numbers_from (n + 1) test xs) n) (parts n)))
      ∙ no-number (n + 1) xs (λ c. or-right (test x && nat_eq n c) (has (numbers_from (n + 1) test xs) c) (parts c))

  -- whether a number is found is whether some pass
  pub found-some : (xs : List A) (found : Option ℕ) → Finds (has (numbers_of test xs)) found → is_some found ≡ list_any test xs
  found-some xs None finds = sym (no-number 0 xs finds)
  found-some xs (Some c) finds = sym (some-number 0 xs c finds)

or-swap : (a b c d : Bool) → ((a || b) || (c || d)) ≡ ((a || c) || (b || d))
or-swap true b c d = refl
or-swap false true true d = refl
or-swap false true false d = refl
or-swap false false c d = refl

-- whether some pass one of two tests
pub any-either : {A : Type 0} (f g : A → Bool) (xs : List A) → list_any (λ x. f x || g x) xs ≡ (list_any f xs || list_any g xs)
any-either f g [] = refl
any-either f g (x ∷ xs) = ap (λ b. (f x || g x) || b) (any-either f g xs) ∙ or-swap (f x) (g x) (list_any f xs) (list_any g xs)

pub any-neither : {A : Type 0} (xs : List A) → list_any (λ x. false) xs ≡ false
any-neither [] = refl
any-neither (x ∷ xs) = any-neither xs
