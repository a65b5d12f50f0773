-- Where a name is crowded, one of the names in order begins its crowd.
use Rattle.std.proofs.Common.{◌≡◌, ℕ, zero, suc, ◌+◌, ◌<◌, ◌≤◌, arith, List, [], ◌∷◌, Bool, true, false, cond, nat_lt, refl, sym, ap, ◌∙◌, length, length-drop, get_or, drop}
use Rattle.std.specs.List.{filter}
use Rattle.std.specs.List.Sorted.{IsSorted}
use Rattle.std.specs.Ordering.{is_eq, is_le, is_lt, is_ne}
use Rattle.std.specs.declared.cmp.Ordering.{Ordering}
use Rattle.std.specs.declared.cmp.Ordering.TheVariants.{Less, Equal, Greater}
use Rattle.std.proofs.lemmas.Bool.{ltb-true}
use Rattle.std.proofs.lemmas.Cmp.{nat_list_eq_equiv}
use Rattle.std.proofs.lemmas.List.{get_or-drop, length-map}
use Rattle.ascii.specs.Texts.{is_same}
use Rattle.meeting_index.specs.Crowds.{BeginsCrowd, is_crowd}
use Rattle.meeting_index.specs.Named.{has_bytes, named_number, named_order, numbers_in}
use Rattle.meeting_index.specs.declared.named.Named.{Named}
use Rattle.meeting_index.proofs.NamedRuns.{between, order-same, parted-le, parted-lt, same-bytes, sorted-drop}

-- one that begins a crowd begins one of those from it on
pub begins-drop : (names : List Named) (place : ℕ) → BeginsCrowd names place → BeginsCrowd (drop place names) 0
begins-drop names place begins =
    let within = begins.within in
    record {
      within = omega (arith, within, length-drop place names);
      same = λ d.
          ap (λ (x : Named). is_same x.bytes.now (get_or (drop place names) 16 d).bytes.now) (get_or-drop place names 0 d)
          ∙ ap (λ (x : Named). is_same (get_or names (place + 0) d).bytes.now x.bytes.now) (get_or-drop place names 16 d)
          ∙ ap (λ k. is_same (get_or names k d).bytes.now (get_or names (place + 16) d).bytes.now) (omega arith)
          ∙ begins.same d;
    }

-- one that passes a test has so many before it that pass it
record Later {X : Type 0} (test : X → Bool) (n : ℕ) (xs : List X) : Type 0 where
  place : ℕ
  from : n ≤ place
  within : place < length xs
  passes : (d : X) → test (get_or xs place d) ≡ true

module _ {X : Type 0} (test : X → Bool) where
  later-behind : (n : ℕ) (x : X) (xs : List X) → Later test n xs → Later test (suc n) (x ∷ xs)
  later-behind n x xs later =
      let from = later.from in
      let within = later.within in
      record { place = suc later.place; from = omega (arith, from); within = omega (arith, within); passes = later.passes }

  later-past : (n : ℕ) (x : X) (xs : List X) → Later test n xs → Later test n (x ∷ xs)
  later-past n x xs later =
      let from = later.from in
      let within = later.within in
      record { place = suc later.place; from = omega (arith, from); within = omega (arith, within); passes = later.passes }

  later-step : (n : ℕ) (x : X) (xs : List X) (b : Bool) → test x ≡ b → ((m : ℕ) → m < length (filter test xs) → Later test m xs)
      → n < length (cond b (x ∷ filter test xs) (filter test xs)) → Later test n (x ∷ xs)
  later-step zero x xs true e rest less = record { place = 0; from = omega arith; within = omega arith; passes = λ d. e }
  later-step (suc n) x xs true e rest less = later-behind n x xs (rest n (omega (arith, less)))
  later-step n x xs false e rest less = later-past n x xs (rest n less)

  later : (n : ℕ) (xs : List X) → n < length (filter test xs) → Later test n xs
  later n [] less = absurd (omega (arith, less))
  later n (x ∷ xs) less = later-step n x xs (test x) refl (λ m. later m xs) less

-- a name that begins a crowd, with its bytes
pub record Crowding (names : List Named) (bytes : List ℕ) : Type 0 where
  pub place : ℕ
  pub begins : BeginsCrowd names place
  pub here : (d : Named) → has_bytes bytes (get_or names place d) ≡ true

not-lt : (o : Ordering) → is_eq o ≡ true → is_lt o ≡ false
not-lt Less e = absurd (cc)
not-lt Equal e = refl
not-lt Greater e = absurd (cc)

pub not-ne : (o : Ordering) → is_eq o ≡ true → is_ne o ≡ false
not-ne Less e = absurd (cc)
not-ne Equal e = refl
not-ne Greater e = absurd (cc)

eq-le : (o : Ordering) → is_eq o ≡ true → is_le o ≡ true
eq-le Less e = absurd (cc)
eq-le Equal e = refl
eq-le Greater e = absurd (cc)

lt-none : (b : Bool) → (b ≡ true → true ≡ false) → b ≡ false
lt-none true none = none refl
lt-none false none = refl

-- between two names with the same bytes all have them
same-between : (x : Named) (xs : List Named) → IsSorted named_order (x ∷ xs) → (k : ℕ) (d : Named) → 16 ≤ k → k < length (x ∷ xs)
    → has_bytes x.bytes.now (get_or (x ∷ xs) k d) ≡ true → has_bytes x.bytes.now (get_or (x ∷ xs) 16 d) ≡ true
same-between x xs sorted k d le lt e =
    let all = x ∷ xs in
    let last : is_eq (named_order (get_or all k d) x) ≡ true = order-same (get_or all k d) x ∙ e in
    let upto : is_le (named_order (get_or all 16 d) x) ≡ true = parted-le x all sorted 16 k d le lt (eq-le (named_order (get_or all k d) x) last) in
    let itself : is_eq (named_order x x) ≡ true = order-same x x ∙ nat_list_eq_equiv.refl x.bytes.now in
    let from : is_lt (named_order (get_or all 16 d) x) ≡ false =
    lt-none (is_lt (named_order (get_or all 16 d) x)) (λ less.
    sym (parted-lt x all sorted 0 16 d (omega arith) (omega (arith, le, lt)) less) ∙ not-lt (named_order x x) itself) in
    sym (order-same (get_or all 16 d) x) ∙ between (named_order (get_or all 16 d) x) upto from

crowding-behind : (x : Named) (xs : List Named) (bytes : List ℕ) → Crowding xs bytes → Crowding (x ∷ xs) bytes
crowding-behind x xs bytes found =
    let within = found.begins.within in
    record {
      place = suc found.place;
      begins = record {
        within = omega (arith, within);
        same = λ d.
            let next : suc found.place + 16 ≡ suc (found.place + 16) = omega arith in
            ap (λ m. is_same (get_or xs found.place d).bytes.now (get_or (x ∷ xs) m d).bytes.now) next ∙ found.begins.same d;
      };
      here = found.here;
    }

crowding-here : (x : Named) (xs : List Named) (bytes : List ℕ) → IsSorted named_order (x ∷ xs) → has_bytes bytes x ≡ true → Later (has_bytes bytes) 16 (x ∷ xs) → Crowding (x ∷ xs) bytes
crowding-here x xs bytes sorted e found =
    let le = found.from in
    let lt = found.within in
    let is : x.bytes.now ≡ bytes = same-bytes x.bytes.now bytes e in
    let far : (d : Named) → has_bytes x.bytes.now (get_or (x ∷ xs) 16 d) ≡ true = λ d.
    same-between x xs sorted found.place d le lt (ap (λ b. has_bytes b (get_or (x ∷ xs) found.place d)) is ∙ found.passes d) in
    record {
      place = 0;
      begins = record {
        within = omega (arith, le, lt);
        same = λ d.
            ap (λ b. is_same x.bytes.now b) (same-bytes (get_or (x ∷ xs) 16 d).bytes.now x.bytes.now (far d)) ∙ nat_list_eq_equiv.refl x.bytes.now;
      };
      here = λ d. e;
    }

crowding-step : (x : Named) (xs : List Named) (bytes : List ℕ) (b : Bool) → has_bytes bytes x ≡ b → IsSorted named_order (x ∷ xs)
    → (16 < length (filter (has_bytes bytes) xs) → Crowding xs bytes)
    → 16 < length (filter (has_bytes bytes) (x ∷ xs))
    → 16 < length (cond b (x ∷ filter (has_bytes bytes) xs) (filter (has_bytes bytes) xs)) → Crowding (x ∷ xs) bytes
crowding-step x xs bytes true e sorted rest whole many = crowding-here x xs bytes sorted e (later (has_bytes bytes) 16 (x ∷ xs) whole)
crowding-step x xs bytes false e sorted rest whole many = crowding-behind x xs bytes (rest many)

crowding : (names : List Named) (bytes : List ℕ) → IsSorted named_order names → 16 < length (filter (has_bytes bytes) names) → Crowding names bytes
crowding [] bytes sorted many = absurd (omega (arith, many))
crowding (x ∷ xs) bytes sorted many =
    crowding-step x xs bytes (has_bytes bytes x) refl sorted (crowding xs bytes (sorted-drop named_order 1 (x ∷ xs) sorted)) many many

pub crowd-begins : (names : List Named) (bytes : List ℕ) → IsSorted named_order names → is_crowd (numbers_in names bytes) ≡ true → Crowding names bytes
crowd-begins names bytes sorted many =
    crowding names bytes sorted
    (ltb-true 16 (length (filter (has_bytes bytes) names)) (ap (nat_lt 16) (sym (length-map (filter (has_bytes bytes) names) named_number)) ∙ many))

-- one of the names, if there is any
pub some-name : (names : List Named) (place : ℕ) → place < length names → Named
some-name [] place within = absurd (omega (arith, within))
some-name (name ∷ names) place within = name
