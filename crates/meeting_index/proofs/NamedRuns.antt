-- In order of hash and bytes the names with the same bytes stand in one run.
use Rattle.std.proofs.Common.{◌≡◌, ℕ, zero, suc, ◌+◌, ◌-◌, ◌<◌, ◌≤◌, arith, List, [], ◌∷◌, Bool, true, false, cond, ◌&&◌, ◌||◌, nat_eq, refl, sym, ap, ◌∙◌, length, length-drop, map, get_or, subst, take, drop}
use Rattle.std.specs.List.{filter, list_any}
use Rattle.std.specs.List.Sorted.{IsPermutation, IsSorted, IsNonDecreasingBy, IsPartitionedBy, IsPartitionPoint}
use Rattle.std.specs.Ordering.{is_eq, is_le, is_lt, nat_cmp, ordering_index, ordering_then}
use Rattle.std.specs.Cmp.Lexicographic.{slice_cmp, pointwise}
use Rattle.std.specs.declared.cmp.Ordering.{Ordering}
use Rattle.std.specs.declared.cmp.Ordering.TheVariants.{Less, Equal, Greater}
use Rattle.std.proofs.lemmas.Cmp.{same_from_slice_cmp, tied_itself, nat_cmp_total}
use Rattle.std.proofs.lemmas.Bool.{and_parts, eqb-true}
use Rattle.std.proofs.lemmas.Bool.Decides.{nat_tests}
use Rattle.std.proofs.lemmas.List.{get_or-drop, get_or-take, length-take-le, take_rest}
use Rattle.std.proofs.lemmas.List.Sorted.{searchable_from_sorted, list_any-IsPermutation}
use Rattle.ascii.specs.Texts.{is_same}
use Rattle.meeting_index.specs.Named.{has_bytes, named_number, named_order, numbers_in}
use Rattle.meeting_index.specs.Hashes.{hash_of}
use Rattle.meeting_index.specs.NamedLaws.{named_order-total}
use Rattle.meeting_index.specs.declared.named.Named.{Named}

-- ---- which names are equal

-- whether two texts are equal
pub is_eq-same : (a b : List ℕ) → is_eq (slice_cmp nat_cmp a b) ≡ is_same a b
is_eq-same a b =
    same_from_slice_cmp nat_cmp is_eq (λ xs ys. pointwise nat_eq xs ys) refl (λ _ _. refl) (λ _ _. refl) (λ x y xs ys o h. grind (arith, nat_tests)) a b (slice_cmp nat_cmp a b) refl

-- texts with the same bytes
pub same-bytes : (a b : List ℕ) → is_same a b ≡ true → a ≡ b
same-bytes [] [] e = refl
same-bytes [] (y ∷ ys) e = absurd (cc)
same-bytes (x ∷ xs) [] e = absurd (cc)
same-bytes (x ∷ xs) (y ∷ ys) e = let p = and_parts (nat_eq x y) (is_same xs ys) e in ap (λ z. z ∷ xs) (eqb-true x y p.0) ∙ ap (λ zs. y ∷ zs) (same-bytes xs ys p.1)

order-equal : (x s : Named) → is_same x.bytes.now s.bytes.now ≡ true → is_eq (named_order x s) ≡ true
order-equal x s e =
    let hashes : x.hash ≡ s.hash = x.hashed ∙ ap hash_of (same-bytes x.bytes.now s.bytes.now e) ∙ sym s.hashed in
    ap (λ h. is_eq (ordering_then (nat_cmp h s.hash) (slice_cmp nat_cmp x.bytes.now s.bytes.now))) hashes
    ∙ ap (λ o. is_eq (ordering_then o (slice_cmp nat_cmp x.bytes.now s.bytes.now))) (tied_itself nat_cmp_total s.hash)
    ∙ is_eq-same x.bytes.now s.bytes.now
    ∙ e

then-apart : (o p : Ordering) → is_eq p ≡ false → is_eq (ordering_then o p) ≡ false
then-apart Less p e = refl
then-apart Equal p e = e
then-apart Greater p e = refl

order-cases : (x s : Named) (b : Bool) → is_same x.bytes.now s.bytes.now ≡ b → is_eq (named_order x s) ≡ b
order-cases x s true e = order-equal x s e
order-cases x s false e = then-apart (nat_cmp x.hash s.hash) (slice_cmp nat_cmp x.bytes.now s.bytes.now) (is_eq-same x.bytes.now s.bytes.now ∙ e)

-- those that compare as equal are those with the same bytes
pub order-same : (x s : Named) → is_eq (named_order x s) ≡ has_bytes s.bytes.now x
order-same x s = order-cases x s (has_bytes s.bytes.now x) refl

-- ---- where what is sought stands

pub lt-down : (o p : Ordering) → ordering_index o ≤ ordering_index p → is_lt p ≡ true → is_lt o ≡ true
lt-down Less p le e = refl
lt-down Equal Less le e = absurd (omega arith)
lt-down Equal Equal le e = absurd (cc)
lt-down Equal Greater le e = absurd (cc)
lt-down Greater Less le e = absurd (omega arith)
lt-down Greater Equal le e = absurd (cc)
lt-down Greater Greater le e = absurd (cc)

pub le-down : (o p : Ordering) → ordering_index o ≤ ordering_index p → is_le p ≡ true → is_le o ≡ true
le-down Less p le e = refl
le-down Equal p le e = refl
le-down Greater Less le e = absurd (omega arith)
le-down Greater Equal le e = absurd (omega arith)
le-down Greater Greater le e = absurd (cc)

rises : (s : Named) (xs : List Named) → IsSorted named_order xs → IsNonDecreasingBy (λ x. ordering_index (named_order x s)) xs
rises s xs sorted = searchable_from_sorted named_order-total (λ x. x) xs s sorted

pub parted-lt : (s : Named) (xs : List Named) → IsSorted named_order xs → IsPartitionedBy (λ x. is_lt (named_order x s)) xs
parted-lt s xs sorted = λ i j d le lt e. lt-down (named_order (get_or xs i d) s) (named_order (get_or xs j d) s) (rises s xs sorted i j d le lt) e

pub parted-le : (s : Named) (xs : List Named) → IsSorted named_order xs → IsPartitionedBy (λ x. is_le (named_order x s)) xs
parted-le s xs sorted = λ i j d le lt e. le-down (named_order (get_or xs i d) s) (named_order (get_or xs j d) s) (rises s xs sorted i j d le lt) e

-- ---- filters over runs

module _ {X : Type 0} (test : X → Bool) where
  -- those in front fail
  pub filter-past : (i : ℕ) (xs : List X) → i ≤ length xs → ((k : ℕ) (d : X) → k < i → test (get_or xs k d) ≡ false) → filter test xs ≡ filter test (drop i xs)
  filter-past zero xs le fail = refl
  filter-past (suc i) [] le fail = refl
  filter-past (suc i) (x ∷ xs) le fail =
      ap (λ b. cond b (x ∷ filter test xs) (filter test xs)) (fail 0 x (omega arith))
      ∙ filter-past i xs (omega arith) (λ k d lt. fail (suc k) d (omega arith))

  -- all fail
  pub filter-fails : (xs : List X) → ((k : ℕ) (d : X) → k < length xs → test (get_or xs k d) ≡ false) → filter test xs ≡ []
  filter-fails [] fail = refl
  filter-fails (x ∷ xs) fail =
      ap (λ b. cond b (x ∷ filter test xs) (filter test xs)) (fail 0 x (omega arith))
      ∙ filter-fails xs (λ k d lt. fail (suc k) d (omega arith))

  -- those up to a place pass, and those behind it fail
  pub filter-run : (n : ℕ) (xs : List X) → ((k : ℕ) (d : X) → k < n → k < length xs → test (get_or xs k d) ≡ true)
      → ((k : ℕ) (d : X) → n ≤ k → k < length xs → test (get_or xs k d) ≡ false) → filter test xs ≡ take n xs
  filter-run zero xs pass fail = filter-fails xs (λ k d lt. fail k d (omega arith) lt)
  filter-run (suc n) [] pass fail = refl
  filter-run (suc n) (x ∷ xs) pass fail =
      ap (λ b. cond b (x ∷ filter test xs) (filter test xs)) (pass 0 x (omega arith) (omega arith))
      ∙ ap (λ ys. x ∷ ys) (filter-run n xs (λ k d lt in_list. pass (suc k) d (omega arith) (omega arith)) (λ k d le in_list. fail (suc k) d (omega arith) (omega arith)))

-- ---- what is at a name

any-cases : (test : ℕ → Bool) (bytes : List ℕ) (x : Named) (xs : List Named) (b : Bool)
    → list_any test (numbers_in xs bytes) ≡ list_any (λ y. has_bytes bytes y && test y.number) xs
    → list_any test (map named_number (cond b (x ∷ filter (has_bytes bytes) xs) (filter (has_bytes bytes) xs)))
    ≡ ((b && test x.number) || list_any (λ y. has_bytes bytes y && test y.number) xs)
any-cases test bytes x xs true e = ap (λ r. test x.number || r) e
any-cases test bytes x xs false e = e

any-in : (test : ℕ → Bool) (bytes : List ℕ) (xs : List Named) → list_any test (numbers_in xs bytes) ≡ list_any (λ y. has_bytes bytes y && test y.number) xs
any-in test bytes [] = refl
any-in test bytes (x ∷ xs) = any-cases test bytes x xs (has_bytes bytes x) (any-in test bytes xs)

-- names in another order have the same numbers at each name
pub any-permuted : (xs ys : List Named) → IsPermutation xs ys → (bytes : List ℕ) (test : ℕ → Bool) → list_any test (numbers_in ys bytes) ≡ list_any test (numbers_in xs bytes)
any-permuted xs ys p bytes test =
    any-in test bytes ys ∙ sym (list_any-IsPermutation (λ y. has_bytes bytes y && test y.number) xs ys p) ∙ sym (any-in test bytes xs)

-- ---- the run of a name

pub sorted-drop : {X : Type 0} (order : X → X → Ordering) (n : ℕ) (xs : List X) → IsSorted order xs → IsSorted order (drop n xs)
sorted-drop order zero xs sorted = sorted
sorted-drop order (suc n) [] sorted = sorted
sorted-drop order (suc n) (x ∷ xs) sorted =
    sorted-drop order n xs (λ k d le lt.
    let next : suc (k + 1) ≡ suc k + 1 = omega arith in
    ap (λ m. is_lt (order (get_or (x ∷ xs) m d) (get_or (x ∷ xs) (suc k) d))) next ∙ sorted (suc k) d (omega arith) (omega arith))

lt-apart : (o : Ordering) → is_lt o ≡ true → is_eq o ≡ false
lt-apart Less e = refl
lt-apart Equal e = absurd (cc)
lt-apart Greater e = refl

gt-apart : (o : Ordering) → is_le o ≡ false → is_eq o ≡ false
gt-apart Less e = refl
gt-apart Equal e = absurd (cc)
gt-apart Greater e = refl

pub between : (o : Ordering) → is_le o ≡ true → is_lt o ≡ false → is_eq o ≡ true
between Less le lt = absurd (cc)
between Equal le lt = refl
between Greater le lt = absurd (cc)

-- what stands from the first that is not before a name, up to the last that is not behind it, is what has its bytes
pub run : (s : Named) (xs : List Named) (first count : ℕ) → first ≤ length xs
    → IsPartitionPoint (λ x. is_lt (named_order x s) ≡ true) (λ x. is_lt (named_order x s) ≡ false) xs first
    → IsPartitionPoint (λ x. is_le (named_order x s) ≡ true) (λ x. is_le (named_order x s) ≡ false) (drop first xs) count
    → filter (has_bytes s.bytes.now) xs ≡ take count (drop first xs)
run s xs first count within before upto =
    filter-past (has_bytes s.bytes.now) first xs within (λ k d lt. sym (order-same (get_or xs k d) s) ∙ lt-apart (named_order (get_or xs k d) s) (before.0 k d (omega arith) lt))
    ∙ filter-run (has_bytes s.bytes.now) count (drop first xs)
    (λ k d lt in_list.
    let long : k < length xs - first = subst (λ n. k < n) (length-drop first xs) in_list in
    let same : get_or (drop first xs) k d ≡ get_or xs (first + k) d = get_or-drop first xs k d in
    let from : is_lt (named_order (get_or (drop first xs) k d) s) ≡ false = ap (λ x. is_lt (named_order x s)) same ∙ before.1 (first + k) d (omega arith) (omega arith) in
    sym (order-same (get_or (drop first xs) k d) s) ∙ between (named_order (get_or (drop first xs) k d) s) (upto.0 k d (omega arith) lt) from)
    (λ k d le in_list. sym (order-same (get_or (drop first xs) k d) s) ∙ gt-apart (named_order (get_or (drop first xs) k d) s) (upto.1 k d le in_list))

-- the same, as the program has the lists
pub run-of : (s : Named) (xs front whole : List Named) (first count : ℕ) → front ≡ xs → whole ≡ xs → first ≤ length front
    → IsPartitionPoint (λ x. is_lt (named_order x s) ≡ true) (λ x. is_lt (named_order x s) ≡ false) front first
    → IsPartitionPoint (λ x. is_le (named_order x s) ≡ true) (λ x. is_le (named_order x s) ≡ false) (take (length whole - first) (drop first whole)) count
    → filter (has_bytes s.bytes.now) xs ≡ take count (drop first xs)
run-of s xs front whole first count e f within before upto =
    run s xs first count (subst (λ (ys : List Named). first ≤ length ys) e within)
    (subst (λ (ys : List Named). IsPartitionPoint (λ x. is_lt (named_order x s) ≡ true) (λ x. is_lt (named_order x s) ≡ false) ys first) e before)
    (subst (λ (ys : List Named). IsPartitionPoint (λ x. is_le (named_order x s) ≡ true) (λ x. is_le (named_order x s) ≡ false) ys count)
    (ap (λ (ys : List Named). take (length ys - first) (drop first ys)) f ∙ take_rest xs first) upto)

-- what stands in a part of a list in order is in order
pub sorted-part : (low n : ℕ) (xs : List Named) → low + n ≤ length xs → IsSorted named_order xs → IsSorted named_order (take n (drop low xs))
sorted-part low n xs within sorted =
    let rest = drop low xs in
    let all : length rest ≡ length xs - low = length-drop low xs in
    let long : length (take n rest) ≡ n = length-take-le n rest (omega (arith, all)) in
    λ k d le lt.
    let last : k + 1 < n = omega (arith, long) in
    ap (λ x. is_lt (named_order x (get_or (take n rest) k d))) (get_or-take n rest (k + 1) d last)
    ∙ ap (λ x. is_lt (named_order (get_or rest (k + 1) d) x)) (get_or-take n rest k d (omega arith))
    ∙ sorted-drop named_order low xs sorted k d le (omega (arith, all))
