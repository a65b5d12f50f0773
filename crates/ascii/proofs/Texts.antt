-- The front of a text whose bytes pass a test, and what stands behind it.
use Rattle.std.proofs.Common.{◌≡◌, ℕ, suc, ◌+◌, Bool, true, false, cond, ◌&&◌, ◌==◌, List, [], ◌∷◌, ◌++◌, length, drop, refl, ap, ◌∙◌, arith}
use Rattle.std.specs.List.{list_all, prefix_len}
use Rattle.std.proofs.lemmas.Bool.{and_parts}
use Rattle.std.proofs.lemmas.Bool.Decides.{nat_tests}
use Rattle.std.proofs.lemmas.Slice.Eq.{bytes_eq-Decides}
use Rattle.std.proofs.Math.Seq.{drop-append_seam}
use Rattle.ascii.specs.Texts.{is_same, begins, behind}

-- a text does not begin with a byte, where the bytes of its front are others and what follows does not begin with it
pub begins-append : (p test : ℕ → Bool) (xs ys : List ℕ) → list_all p xs ≡ true → ((b : ℕ) → p b ≡ true → test b ≡ false)
    → begins test ys ≡ false → begins test (xs ++ ys) ≡ false
begins-append p test [] ys h w stop = stop
begins-append p test (x ∷ xs) ys h w stop = w x (and_parts (p x) (list_all p xs) h).0

pub begins-other : (p test : ℕ → Bool) (xs ys : List ℕ) → begins p xs ≡ true → ((b : ℕ) → p b ≡ true → test b ≡ false) → begins test (xs ++ ys) ≡ false
begins-other p test [] ys h w = cc
begins-other p test (x ∷ xs) ys h w = w x h

-- a run ends where a byte does not pass
pub prefix_len-run : (test : ℕ → Bool) (xs ys : List ℕ) → list_all test xs ≡ true → begins test ys ≡ false → prefix_len test (xs ++ ys) ≡ length xs
prefix_len-run test [] [] h stop = refl
prefix_len-run test [] (y ∷ ys) h stop = rw stop refl
prefix_len-run test (x ∷ xs) ys h stop =
    let both = and_parts (test x) (list_all test xs) h in
    let more = prefix_len-run test xs ys both.1 stop in
    rw both.0 (omega arith)

pub behind-run : (test : ℕ → Bool) (xs ys : List ℕ) → list_all test xs ≡ true → begins test ys ≡ false → behind test (xs ++ ys) ≡ ys
behind-run test xs ys h stop = ap (λ n. drop n (xs ++ ys)) (prefix_len-run test xs ys h stop) ∙ drop-append_seam xs ys

-- what stands behind a run, at a first byte
pub behind-cons : (p : ℕ → Bool) (x : ℕ) (xs : List ℕ) → behind p (x ∷ xs) ≡ cond (p x) (behind p xs) (x ∷ xs)
behind-cons p x xs = by (p x)
  where
    by : (b : Bool) → drop (cond b (1 + prefix_len p xs) 0) (x ∷ xs) ≡ cond b (behind p xs) (x ∷ xs)
    by true = let e : 1 + prefix_len p xs ≡ suc (prefix_len p xs) = omega arith in ap (λ n. drop n (x ∷ xs)) e
    by false = refl

-- nothing stands behind a run exactly where each byte passes
pub behind-none : (p : ℕ → Bool) (xs : List ℕ) → (length (behind p xs) == 0) ≡ list_all p xs
behind-none p [] = refl
behind-none p (x ∷ xs) = ap (λ (l : List ℕ). length l == 0) (behind-cons p x xs) ∙ by (p x) (behind-none p xs)
  where
    by : (b : Bool) → (length (behind p xs) == 0) ≡ list_all p xs → (length (cond b (behind p xs) (x ∷ xs)) == 0) ≡ (b && list_all p xs)
    by true h = h
    by false h = grind (arith, nat_tests)

-- a run goes on behind bytes that pass
pub behind-skip : (p : ℕ → Bool) (xs ys : List ℕ) → list_all p xs ≡ true → behind p (xs ++ ys) ≡ behind p ys
behind-skip p [] ys h = refl
behind-skip p (x ∷ xs) ys h =
    let parts = and_parts (p x) (list_all p xs) h in
    behind-cons p x (xs ++ ys) ∙ ap (λ b. cond b (behind p (xs ++ ys)) (x ∷ (xs ++ ys))) parts.0 ∙ behind-skip p xs ys parts.1

-- what stands behind a run does not begin with a byte that passes
pub begins-behind : (p : ℕ → Bool) (xs : List ℕ) → begins p (behind p xs) ≡ false
begins-behind p [] = refl
begins-behind p (x ∷ xs) = ap (begins p) (behind-cons p x xs) ∙ by (p x) refl (begins-behind p xs)
  where
    by : (b : Bool) → p x ≡ b → begins p (behind p xs) ≡ false → begins p (cond b (behind p xs) (x ∷ xs)) ≡ false
    by true e h = h
    by false e h = e

-- texts of the same bytes are equal
pub is_same-equal : (a b : List ℕ) → is_same a b ≡ true → a ≡ b
is_same-equal a b h = (bytes_eq-Decides a b).0 h
