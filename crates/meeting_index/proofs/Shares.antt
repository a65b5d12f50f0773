-- The names of a share of the hashes stand in one run, and have all that is at their names.
use Rattle.std.proofs.Common.{◌≡◌, ℕ, zero, suc, ◌+◌, ◌-◌, ◌<◌, ◌≤◌, arith, List, [], ◌∷◌, Bool, true, false, cond, nat_eq, nat_lt, ◌/◌, refl, sym, ap, ◌∙◌, length, length-drop, get_or, subst, take, drop}
use Rattle.std.specs.List.{filter}
use Rattle.std.specs.List.Sorted.{IsSorted, IsNonDecreasingBy}
use Rattle.std.specs.Ordering.{is_lt, ordering_then}
use Rattle.std.specs.declared.cmp.Ordering.{Ordering}
use Rattle.std.specs.declared.cmp.Ordering.TheVariants.{Less, Equal, Greater}
use Rattle.std.proofs.lemmas.Bool.{ltb-false, ltb-true}
use Rattle.std.proofs.lemmas.List.{get_or-drop, get_or_read}
use Rattle.std.proofs.lemmas.List.Sorted.{ranks_by, sorted_far}
use Rattle.meeting_index.specs.Hashes.{hash_of}
use Rattle.meeting_index.specs.Named.{has_bytes, named_order, share_of}
use Rattle.meeting_index.specs.NamedLaws.{named_order-total}
use Rattle.meeting_index.specs.Starts.{AreStarts, IsStart}
use Rattle.meeting_index.specs.declared.named.Named.{Named}
use Rattle.meeting_index.proofs.NamedRuns.{filter-fails, filter-past, same-bytes}

-- ---- shares rise

lt-cases : (m n : ℕ) (o : Ordering) (b : Bool) → nat_lt n m ≡ b → is_lt (ordering_then (cond b Less (cond (nat_eq n m) Equal Greater)) o) ≡ false → m ≤ n
lt-cases m n o true s e = absurd (cc)
lt-cases m n o false s e = ltb-false n m s

share-le : (x y : Named) → is_lt (named_order y x) ≡ false → share_of x ≤ share_of y
share-le x y e = let hashes : x.hash ≤ y.hash = lt-cases x.hash y.hash _ (nat_lt y.hash x.hash) refl e in omega arith

pub rises-share : (xs : List Named) → IsSorted named_order xs → IsNonDecreasingBy share_of xs
rises-share xs sorted =
    λ i j d le lt. share-le (get_or xs i d) (get_or xs j d) (sorted_far (λ x y. is_lt (named_order x y)) (ranks_by named_order-total (λ x. x)) xs sorted i j d le lt)

-- ---- what has the same bytes is in the same share

share-same : (x s : Named) → has_bytes s.bytes.now x ≡ true → share_of x ≡ share_of s
share-same x s e = ap (λ h. h / 281474976710656) (x.hashed ∙ ap hash_of (same-bytes x.bytes.now s.bytes.now e) ∙ sym s.hashed)

earlier-cases : (x s : Named) (b : Bool) → has_bytes s.bytes.now x ≡ b → nat_lt (share_of x) (share_of s) ≡ true → b ≡ false
earlier-cases x s true e lt = let same = share-same x s e in let less = ltb-true (share_of x) (share_of s) lt in absurd (omega arith)
earlier-cases x s false e lt = refl

later-cases : (x s : Named) (b : Bool) → has_bytes s.bytes.now x ≡ b → nat_lt (share_of x) (share_of s + 1) ≡ false → b ≡ false
later-cases x s true e lt = let same = share-same x s e in let more = ltb-false (share_of x) (share_of s + 1) lt in absurd (omega arith)
later-cases x s false e lt = refl

-- ---- what is at a name is in its share

module _ {X : Type 0} (test : X → Bool) where
  -- those from a place on fail
  pub filter-until : (n : ℕ) (xs : List X) → ((k : ℕ) (d : X) → n ≤ k → k < length xs → test (get_or xs k d) ≡ false) → filter test xs ≡ filter test (take n xs)
  filter-until zero xs fail = filter-fails test xs (λ k d lt. fail k d (omega arith) lt)
  filter-until (suc n) [] fail = refl
  filter-until (suc n) (x ∷ xs) fail =
      ap (λ rest. cond (test x) (x ∷ rest) rest) (filter-until n xs (λ k d le lt. fail (suc k) d (omega arith) (omega arith)))

pub share-filter : (s : Named) (xs : List Named) (low high : ℕ) → IsStart xs (share_of s) low → IsStart xs (share_of s + 1) high
    → filter (has_bytes s.bytes.now) xs ≡ filter (has_bytes s.bytes.now) (take (high - low) (drop low xs))
share-filter s xs low high first last =
    filter-past (has_bytes s.bytes.now) low xs first.within (λ k d lt. earlier-cases (get_or xs k d) s (has_bytes s.bytes.now (get_or xs k d)) refl (first.point.0 k d (omega arith) lt))
    ∙ filter-until (has_bytes s.bytes.now) (high - low) (drop low xs)
    (λ k d le lt.
    let long : k < length xs - low = subst (λ n. k < n) (length-drop low xs) lt in
    let same : get_or (drop low xs) k d ≡ get_or xs (low + k) d = get_or-drop low xs k d in
    ap (has_bytes s.bytes.now) same
    ∙ later-cases (get_or xs (low + k) d) s (has_bytes s.bytes.now (get_or xs (low + k) d)) refl (last.point.1 (low + k) d (omega arith) (omega arith)))

-- shares begin in order
pub starts-rise : (xs : List Named) (share low high : ℕ) → IsStart xs share low → IsStart xs (share + 1) high → low ≤ high
starts-rise [] share low high first last = let none : low ≤ 0 = first.within in omega arith
starts-rise (x ∷ xs) share low high first last = below (nat_lt high low) refl
  where
    below : (b : Bool) → nat_lt high low ≡ b → low ≤ high
    below false e = ltb-false high low e
    below true e =
        let less : high < low = ltb-true high low e in
        let early = ltb-true (share_of (get_or (x ∷ xs) high x)) share (first.point.0 high x (omega arith) less) in
        let late = ltb-false (share_of (get_or (x ∷ xs) high x)) (share + 1) (last.point.1 high x (omega arith) (omega (arith, first.within))) in
        absurd (omega arith)

-- a place that is kept is where its share begins
pub start-kept : (names : List Named) (starts : List ℕ) (share place : ℕ) → AreStarts names starts → share < 65537 → place ≡ get_or starts share place → IsStart names share place
start-kept names starts share place kept lt is =
    subst (λ p. IsStart names share p) (sym (get_or_read starts share place (omega (arith, kept.all)) is 0)) (kept.each share lt)
