-- Lists are filled by one dependency after another; each has room for all that it is to have.
use Rattle.std.proofs.Common.{◌≡◌, ◌<◌, ◌≤◌, ◌-◌, ◌+◌, ◌||◌, ℕ, zero, suc, List, [], ◌∷◌, Bool, true, false, length, get_or, set, take, refl, ap, sym, subst, ◌∙◌, arith, inl, inr, nat_lt, nat_eq, length-append}
use Rattle.std.specs.List.{filter, list_all}
use Rattle.std.proofs.lemmas.List.{length-replicate, get_or-replicate, get_or-set_same, get_or-set_other, length-set}
use Rattle.std.proofs.lemmas.List.Sums.{fold_more}
use Rattle.std.proofs.lemmas.Bool.{and_from, lt-ltb, ltb-true, eq-eqb, cases_eq, or_right}
use Rattle.lists.proofs.Below.{filter-below_yes, filter-below_no}
use Rattle.lists.proofs.Tests.{list_all_weaker}
use Rattle.lists.proofs.Sets.{list_all-has}
use Rattle.lists.specs.Below.{below}
use Rattle.lists.specs.Sets.{has}
use Rattle.problem.specs.Listing.{ends_in, with_end, noted, noted_all}
use Rattle.problem.specs.Rooms.{Laid, room_of, can_note, with_noted}
use Rattle.problem.specs.Indexes.{ListsBy, IsEmptyFor}
use Rattle.problem.proofs.Listing.{ends-with}
use Rattle.problem.proofs.Indexes.{lists_noted}

-- What may be noted in a list may still be so after another was noted.
pub can_later : (l : Laid) (d x : ℕ) → x < length l.lists → (k : ℕ) → can_note l d k ≡ true → can_note (with_noted l d (x ∷ [])) d k ≡ true
can_later l d x lt k h =
    elim (cases_eq k x) [
      | inl e ↦
          let own : get_or (set l.lists x (with_end d (get_or l.lists x []))) x [] ≡ with_end d (get_or l.lists x []) = get_or-set_same l.lists x (with_end d (get_or l.lists x [])) [] lt in
          let ends : ends_in d (get_or (set l.lists x (with_end d (get_or l.lists x []))) x []) ≡ true = ap (ends_in d) own ∙ ends-with d (get_or l.lists x []) in
          subst (λ n. can_note (with_noted l d (x ∷ [])) d n ≡ true) (sym e) (ap (λ b. b || nat_lt (length (get_or (set l.lists x (with_end d (get_or l.lists x []))) x [])) (room_of l x)) ends)
      | inr apart ↦
          let same : get_or (set l.lists x (with_end d (get_or l.lists x []))) k [] ≡ get_or l.lists k [] = get_or-set_other l.lists x k (with_end d (get_or l.lists x [])) [] apart in
          ap (λ xs. ends_in d xs || nat_lt (length xs) (room_of l k)) same ∙ h
    ]

pub all_later : (l : Laid) (d x : ℕ) → x < length l.lists → (keys : List ℕ) → list_all (can_note l d) keys ≡ true → list_all (can_note (with_noted l d (x ∷ [])) d) keys ≡ true
all_later l d x lt keys h = list_all_weaker (can_note l d) (can_note (with_noted l d (x ∷ [])) d) (can_later l d x lt) keys h

-- a dependency is noted in the first lists that some numbers name
pub record IsNotedSoFar (d : ℕ) (old now : Laid) (keys : List ℕ) (i : ℕ) : Type 0 where
  pub view : now ≡ with_noted old d (take i keys)
  pub room : list_all (can_note now d) keys ≡ true
  pub size : length now.lists ≡ length old.lists

pub noted_more : (d : ℕ) (old now next : Laid) (keys : List ℕ) (i : ℕ) → i < length keys → get_or keys i 0 < length old.lists → IsNotedSoFar d old now keys i
    → next ≡ with_noted now d (get_or keys i 0 ∷ []) → IsNotedSoFar d old next keys (i + 1)
noted_more d old now next keys i lt low h e =
    let key : ℕ = get_or keys i 0 in
    let less : get_or keys i 0 < length now.lists = omega (arith, low, h.size) in
    let more : noted_all d old.lists (take (i + 1) keys) ≡ noted d (noted_all d old.lists (take i keys)) (get_or keys i 0) = fold_more (noted d) old.lists keys i 0 lt in
    record {
      view = e ∙ ap (λ l. with_noted l d (get_or keys i 0 ∷ [])) h.view ∙ ap (λ xs. record { lists = xs; firsts = old.firsts; size = old.size }) (sym more);
      room = subst (λ l. list_all (can_note l d) keys ≡ true) (sym e) (all_later now d key less keys h.room);
      size = ap (λ l. length l.lists) e ∙ length-set now.lists (get_or keys i 0) (with_end d (get_or now.lists (get_or keys i 0) [])) ∙ h.size;
    }

-- Lists by a test, filled with the dependencies before one.
pub record IsFilledTo (f : ℕ → ℕ → Bool) (count d : ℕ) (old now : Laid) : Type 0 where
  pub lists : ListsBy (λ k. filter (f k) (below d)) count now.lists
  pub firsts : now.firsts ≡ old.firsts
  pub size : now.size ≡ old.size

pub fill_start : (f : ℕ → ℕ → Bool) (list : ℕ → List ℕ) (count : ℕ) (old : Laid) → IsEmptyFor list count old → IsFilledTo f count 0 old old
fill_start f list count old h = record {
  lists = record {
    size = ap length h.lists ∙ length-replicate {A = List ℕ} count [];
    each = λ k lt. ap (λ xs. get_or xs k []) h.lists ∙ get_or-replicate count k [] [] lt;
  };
  firsts = refl;
  size = refl;
}

pub fill_next : (f : ℕ → ℕ → Bool) (count d : ℕ) (keys : List ℕ) (old now next : Laid) → IsFilledTo f count d old now → ((k : ℕ) → f k d ≡ has keys k) → next ≡ with_noted now d keys
    → IsFilledTo f count (d + 1) old next
fill_next f count d keys old now next h e n = record {
  lists = subst (λ l. ListsBy (λ k. filter (f k) (below (d + 1))) count l.lists) (sym n) (lists_noted f f d (d + 1) count keys now.lists refl (λ k x lt. refl) e h.lists);
  firsts = ap (λ l. l.firsts) n ∙ h.firsts;
  size = ap (λ l. l.size) n ∙ h.size;
}

-- A test takes as many of more numbers, or more.
filter_longer : (f : ℕ → Bool) (n : ℕ) → length (filter f (below n)) ≤ length (filter f (below (n + 1)))
filter_longer f n =
    elim (f n) as (λ b. f n ≡ b → length (filter f (below n)) ≤ length (filter f (below (n + 1)))) [
      | true ↦ λ e. omega (arith, ap length (filter-below_yes f n e), length-append (filter f (below n)) (n ∷ []))
      | false ↦ λ e. omega (arith, ap length (filter-below_no f n e))
    ] refl

filter_grows : (f : ℕ → Bool) (m i n : ℕ) → n ≡ m + i → length (filter f (below m)) ≤ length (filter f (below n))
filter_grows f m zero n e = let same : n ≡ m = omega (arith, e) in omega (arith, ap (λ n. length (filter f (below n))) same)
filter_grows f m (suc i) n e =
    let last : n ≡ (m + i) + 1 = omega (arith, e) in
    omega (arith, filter_grows f m i (m + i) refl, filter_longer f (m + i), ap (λ n. length (filter f (below n))) last)

-- so a list to which a number is to be added has room for it
filter_room : (f : ℕ → Bool) (d n : ℕ) → d < n → f d ≡ true → length (filter f (below d)) < length (filter f (below n))
filter_room f d n lt e =
    omega (arith, ap length (filter-below_yes f d e), length-append (filter f (below d)) (d ∷ []), filter_grows f (d + 1) (n - (d + 1)) n (omega (arith, lt)))

pub fill_can : (f : ℕ → ℕ → Bool) (count n d : ℕ) (old now : Laid) → IsEmptyFor (λ k. filter (f k) (below n)) count old → IsFilledTo f count d old now → d < n
    → (k : ℕ) → k < count → f k d ≡ true → can_note now d k ≡ true
fill_can f count n d old now h l lt k low e =
    let own : length (get_or now.lists k []) ≡ length (filter (f k) (below d)) = ap length (l.lists.each k low) in
    let room : room_of now k ≡ room_of old k = ap (λ xs. get_or xs (suc k) now.size - get_or xs k 0) l.firsts ∙ ap (λ n. get_or old.firsts (suc k) n - get_or old.firsts k 0) l.size in
    let test : nat_lt (length (get_or now.lists k [])) (room_of now k) ≡ true = lt-ltb _ _ (omega (arith, own, room, h.rooms k low, filter_room (f k) d n lt e)) in
    or_right (ends_in d (get_or now.lists k [])) (nat_lt (length (get_or now.lists k [])) (room_of now k)) test

all_from_has : (p : ℕ → Bool) (keys : List ℕ) → ((k : ℕ) → has keys k ≡ true → p k ≡ true) → list_all p keys ≡ true
all_from_has p [] h = refl
all_from_has p (x ∷ keys) h = and_from (p x) (list_all p keys) (h x (ap (λ b. b || has keys x) (eq-eqb x x refl))) (all_from_has p keys (λ k m. h k (or_right (nat_eq x k) (has keys k) m)))

pub fill_can_all : (f : ℕ → ℕ → Bool) (count n d : ℕ) (old now : Laid) (keys : List ℕ) → IsEmptyFor (λ k. filter (f k) (below n)) count old → IsFilledTo f count d old now → d < n
    → ((k : ℕ) → f k d ≡ has keys k) → list_all (λ x. nat_lt x count) keys ≡ true → list_all (can_note now d) keys ≡ true
fill_can_all f count n d old now keys h l lt e range =
    all_from_has (can_note now d) keys (λ k m. fill_can f count n d old now h l lt k (ltb-true k count (list_all-has (λ x. nat_lt x count) keys k range m)) (e k ∙ m))
