-- Lists that are blocks, one for each item and its number, and what holds of all items, of some and of each two.
use Rattle.std.proofs.Common.{◌≡◌, ℕ, zero, suc, ◌+◌, ◌<◌, Bool, true, List, [], ◌∷◌, ◌++◌, length, get_or, map, refl, ap, ◌∙◌, subst, arith, All, AllPairs}
use Rattle.std.specs.List.{list_any, flat_map}
use Rattle.std.proofs.lemmas.Bool.{or_left, or_right}
use Rattle.std.proofs.lemmas.List.Elements.{All-nil, All-cons, All-append, All-head, All-tail, All-map}
use Rattle.std.proofs.lemmas.List.Folds.{list_any-append}
use Rattle.std.proofs.lemmas.List.Kept.{AllPairs-cons}
use Rattle.lists.proofs.Distinct.{AllPairs-nil}
use Rattle.universe_model.specs.Lists.{map_from}
use Rattle.universe_model.specs.Versions.{concat}

-- ---- each two

pub AllPairs-head : {A : Type 0} (R : A → A → Type 0) (x : A) (xs : List A) → AllPairs R (x ∷ xs) → All (R x) xs
AllPairs-head R x xs h k d l = h 0 (suc k) d (omega arith) (omega arith)

pub AllPairs-tail : {A : Type 0} (R : A → A → Type 0) (x : A) (xs : List A) → AllPairs R (x ∷ xs) → AllPairs R xs
AllPairs-tail R x xs h i j d l k = h (suc i) (suc j) d (omega arith) (omega arith)

-- R holds of each item of one list and each of another
abbrev pub AllAcross : {A : Type 0} → (A → A → Type 0) → List A → List A → Type 0
AllAcross R xs ys = All (λ x. All (R x) ys) xs

pub AllPairs-append : {A : Type 0} (R : A → A → Type 0) (xs ys : List A) → AllPairs R xs → AllPairs R ys → AllAcross R xs ys → AllPairs R (xs ++ ys)
AllPairs-append R [] ys p q across = q
AllPairs-append R (x ∷ xs) ys p q across =
    AllPairs-cons R x (xs ++ ys)
    (All-append (R x) xs ys (AllPairs-head R x xs p) (All-head (λ x. All (R x) ys) x xs across))
    (AllPairs-append R xs ys (AllPairs-tail R x xs p) q (All-tail (λ x. All (R x) ys) x xs across))

pub AllPairs-map : {A B : Type 0} (R : B → B → Type 0) (f : A → B) (xs : List A) → AllPairs (λ x y. R (f x) (f y)) xs → AllPairs R (map f xs)
AllPairs-map R f [] p = AllPairs-nil R
AllPairs-map R f (x ∷ xs) p =
    AllPairs-cons R (f x) (map f xs)
    (All-map (R (f x)) f xs (AllPairs-head (λ x y. R (f x) (f y)) x xs p))
    (AllPairs-map R f xs (AllPairs-tail (λ x y. R (f x) (f y)) x xs p))

-- ---- numbered blocks

module _ {X A : Type 0} (f : ℕ → X → List A) where
  pub All-blocks : (P : A → Type 0) (n : ℕ) (xs : List X) → ((k : ℕ) (d : X) → k < length xs → All P (f (n + k) (get_or xs k d))) → All P (concat (map_from f n xs))
  All-blocks P n [] h = All-nil P
  All-blocks P n (x ∷ xs) h =
      let first : n + 0 ≡ n = omega arith in
      let next : (k : ℕ) → n + suc k ≡ (n + 1) + k = λ k. omega arith in
      All-append P (f n x) (concat (map_from f (n + 1) xs))
      (subst (λ m. All P (f m x)) first (h 0 x (omega arith)))
      (All-blocks P (n + 1) xs (λ k d l. subst (λ m. All P (f m (get_or xs k d))) (next k) (h (suc k) d (omega arith))))

  pub list_any-blocks : (p : A → Bool) (n : ℕ) (xs : List X) (k : ℕ) (d : X) → k < length xs → list_any p (f (n + k) (get_or xs k d)) ≡ true → list_any p (concat (map_from f n xs)) ≡ true
  list_any-blocks p n [] k d l h = absurd (omega arith)
  list_any-blocks p n (x ∷ xs) zero d l h =
      let first : n + 0 ≡ n = omega arith in
      list_any-append p (f n x) (concat (map_from f (n + 1) xs))
      ∙ or_left (list_any p (f n x)) (list_any p (concat (map_from f (n + 1) xs))) (subst (λ m. list_any p (f m x) ≡ true) first h)
  list_any-blocks p n (x ∷ xs) (suc k) d l h =
      let next : n + suc k ≡ (n + 1) + k = omega arith in
      list_any-append p (f n x) (concat (map_from f (n + 1) xs))
      ∙ or_right (list_any p (f n x)) (list_any p (concat (map_from f (n + 1) xs)))
      (list_any-blocks p (n + 1) xs k d (omega arith) (subst (λ m. list_any p (f m (get_or xs k d)) ≡ true) next h))

  pub AllPairs-blocks : (R : A → A → Type 0) → ((n : ℕ) (x : X) → AllPairs R (f n x)) → ((m n : ℕ) (x y : X) → m < n → AllAcross R (f m x) (f n y)) → (n : ℕ) (xs : List X) → AllPairs R (concat (map_from f n xs))
  AllPairs-blocks R own across n [] = AllPairs-nil R
  AllPairs-blocks R own across n (x ∷ xs) =
      AllPairs-append R (f n x) (concat (map_from f (n + 1) xs)) (own n x) (AllPairs-blocks R own across (n + 1) xs)
      (λ i e l. All-blocks (R (get_or (f n x) i e)) (n + 1) xs (λ k d j. across n (n + 1 + k) x (get_or xs k d) (omega arith) i e l))

-- ---- one item for each

pub length-map_from : {X A : Type 0} (f : ℕ → X → A) (n : ℕ) (xs : List X) → length (map_from f n xs) ≡ length xs
length-map_from f n [] = refl
length-map_from f n (x ∷ xs) = ap suc (length-map_from f (n + 1) xs)

pub get_or-map_from : {X A : Type 0} (f : ℕ → X → A) (n : ℕ) (xs : List X) (k : ℕ) (d : X) (e : A) → k < length xs → get_or (map_from f n xs) k e ≡ f (n + k) (get_or xs k d)
get_or-map_from f n [] k d e l = absurd (omega arith)
get_or-map_from f n (x ∷ xs) zero d e l = let first : n ≡ n + 0 = omega arith in ap (λ m. f m x) first
get_or-map_from f n (x ∷ xs) (suc k) d e l =
    let next : (n + 1) + k ≡ n + suc k = omega arith in
    get_or-map_from f (n + 1) xs k d e (omega arith) ∙ ap (λ m. f m (get_or xs k d)) next

pub All-map_from : {X A : Type 0} (f : ℕ → X → A) (P : A → Type 0) (n : ℕ) (xs : List X) → ((k : ℕ) (x : X) → k < length xs → P (f (n + k) x)) → All P (map_from f n xs)
All-map_from f P n [] h = All-nil P
All-map_from f P n (x ∷ xs) h =
    let first : n + 0 ≡ n = omega arith in
    let next : (k : ℕ) → n + suc k ≡ (n + 1) + k = λ k. omega arith in
    All-cons P (f n x) (map_from f (n + 1) xs) (subst (λ m. P (f m x)) first (h 0 x (omega arith)))
    (All-map_from f P (n + 1) xs (λ k y l. subst (λ m. P (f m y)) (next k) (h (suc k) y (omega arith))))

pub AllPairs-map_from : {X A : Type 0} (f : ℕ → X → A) (R : A → A → Type 0) → ((m n : ℕ) (x y : X) → m < n → R (f m x) (f n y)) → (n : ℕ) (xs : List X) → AllPairs R (map_from f n xs)
AllPairs-map_from f R rising n [] = AllPairs-nil R
AllPairs-map_from f R rising n (x ∷ xs) =
    AllPairs-cons R (f n x) (map_from f (n + 1) xs) (All-map_from f (R (f n x)) (n + 1) xs (λ k y l. rising n (n + 1 + k) x y (omega arith))) (AllPairs-map_from f R rising (n + 1) xs)

pub All-flat_map : {X A : Type 0} (P : A → Type 0) (f : X → List A) (xs : List X) → ((x : X) → All P (f x)) → All P (flat_map f xs)
All-flat_map P f [] h = All-nil P
All-flat_map P f (x ∷ xs) h = All-append P (f x) (flat_map f xs) (h x) (All-flat_map P f xs h)
