-- What a search finds among caps, and what an edit at that place does.
use Rattle.std.proofs.Common.{◌≡◌, ℕ, zero, suc, ◌+◌, ◌-◌, ◌<◌, ◌≤◌, List, [], ◌∷◌, length, get_or, set, Some, None, Result, Ok, Err, IfOk, IfErr, false, nat_lt, nat_eq, refl, sym, ap, subst, arith}
use Rattle.std.specs.List.{insert, remove, find}
use Rattle.std.specs.Option.{option_map}
use Rattle.std.specs.List.Sorted.{IsSearchInRange, IsBinarySearchResult, IsNonDecreasingBy}
use Rattle.std.specs.Ordering.{nat_cmp, ordering_index}
use Rattle.std.proofs.lemmas.Cmp.{ranked}
use Rattle.std.proofs.lemmas.List.Sorted.{IsNonDecreasingBy-from_default}
use Rattle.std.proofs.lemmas.List.Edits.{length-insert, length-remove, get_or-insert_below, get_or-insert_at, get_or-insert_above, get_or-remove_below, get_or-remove_above}
use Rattle.std.proofs.lemmas.Bool.{lt-ltb, le-ltb, ne_eqb, eq-eqb}
use Rattle.std.proofs.lemmas.Bool.Decides.{nat_tests}
use Rattle.std.proofs.lemmas.Grind.{common_steps}
use Rattle.resolver_model.specs.Rules.{Cap, with_cap, without_cap, cap_of, Rules}
use Rattle.user_rules.specs.CapOrder.{level_at, RisesByLevel, IsAt, IsGapFor}

module _ (l : List Cap) (rises : RisesByLevel l) (k : ℕ) where
  -- the comparisons with k rise along the list, as a binary search asks
  comparisons_rise : IsNonDecreasingBy (λ c. ordering_index (nat_cmp c.0 k)) l
  comparisons_rise = IsNonDecreasingBy-from_default (λ c. ordering_index (nat_cmp c.0 k)) l (0, 0) (λ i j le in_range.
      let levels_rise : level_at l i ≤ level_at l j = grind (arith, rises i j, λ (same : i ≡ j). ap (level_at l) same) in
      grind (arith, nat_tests))

  -- a binary search by level ends at the cap, or at the gap for it
  pub searched : (r : Result ℕ ℕ) → IsSearchInRange r (length l) → IsBinarySearchResult (λ c. nat_cmp c.0 k) l r → record { found : IfOk r (IsAt l k); absent : IfErr r (IsGapFor l k) }
  searched (Ok at) in_range equal = record { found = record { in_range = in_range; has_level = ranked _ k _ (sym (equal (0, 0))) }; absent = tt }
  searched (Err at) in_range parted = record {
    found = tt;
    absent = record {
      in_range = in_range;
      lower_before = λ j lt. ranked _ k _ (sym ((parted comparisons_rise).0 j (0, 0) (omega arith) lt));
      higher_after = λ j le lt. ranked _ k _ (sym ((parted comparisons_rise).1 j (0, 0) le lt));
    };
  }

rises_tail : (x : Cap) (l : List Cap) → RisesByLevel (x ∷ l) → RisesByLevel l
rises_tail x l rises i j lt in_range = rises (suc i) (suc j) (omega arith) (omega arith)

at_tail : (x : Cap) (l : List Cap) (k i : ℕ) → IsAt (x ∷ l) k (suc i) → IsAt l k i
at_tail x l k i at = record { in_range = omega (arith, at.in_range); has_level = at.has_level }

gap_tail : (x : Cap) (l : List Cap) (k i : ℕ) → IsGapFor (x ∷ l) k (suc i) → IsGapFor l k i
gap_tail x l k i gap = record {
  in_range = omega (arith, gap.in_range);
  lower_before = λ j lt. gap.lower_before (suc j) (omega arith);
  higher_after = λ j le lt. gap.higher_after (suc j) (omega arith) (omega arith);
}

-- the first cap is below the one at a later place
first_below : (x : Cap) (l : List Cap) (k i : ℕ) → RisesByLevel (x ∷ l) → IsAt (x ∷ l) k (suc i) → x.0 < k
first_below x l k i rises at = let up : x.0 < level_at (x ∷ l) (suc i) = rises 0 (suc i) (omega arith) at.in_range in omega (arith, at.has_level)

-- a level that is not there
without_cap-absent : (l : List Cap) (k : ℕ) → ((j : ℕ) → j < length l → level_at l j ≡ k → ⊥) → without_cap l k ≡ l
without_cap-absent [] k never = refl
without_cap-absent (x ∷ l) k never =
    let apart : nat_eq x.0 k ≡ false = ne_eqb x.0 k (never 0 (omega arith)) in
    rw apart (ap (λ r. x ∷ r) (without_cap-absent l k (λ j lt. never (suc j) (omega arith))))

module _ (k most : ℕ) where
  pub with_cap-at : (l : List Cap) (i : ℕ) → RisesByLevel l → IsAt l k i → with_cap l k most ≡ set l i (k, most)
  with_cap-at [] i rises at = absurd (omega (arith, at.in_range))
  with_cap-at (x ∷ l) zero rises at =
      let here : x.0 ≡ k = at.has_level in
      let not_below : nat_lt x.0 k ≡ false = le-ltb x.0 k (omega arith) in
      rw (not_below, eq-eqb x.0 k here) refl
  with_cap-at (x ∷ l) (suc i) rises at =
      rw (lt-ltb x.0 k (first_below x l k i rises at)) (ap (λ r. x ∷ r) (with_cap-at l i (rises_tail x l rises) (at_tail x l k i at)))

  pub with_cap-gap : (l : List Cap) (i : ℕ) → IsGapFor l k i → with_cap l k most ≡ insert l i (k, most)
  with_cap-gap [] zero gap = refl
  with_cap-gap [] (suc i) gap = absurd (omega (arith, gap.in_range))
  with_cap-gap (x ∷ l) zero gap =
      let above : k < x.0 = gap.higher_after 0 (omega arith) (omega arith) in
      let not_below : nat_lt x.0 k ≡ false = le-ltb x.0 k (omega arith) in
      let apart : nat_eq x.0 k ≡ false = ne_eqb x.0 k (λ e. omega arith) in
      rw (not_below, apart) refl
  with_cap-gap (x ∷ l) (suc i) gap =
      rw (lt-ltb x.0 k (gap.lower_before 0 (omega arith))) (ap (λ r. x ∷ r) (with_cap-gap l i (gap_tail x l k i gap)))

pub without_cap-at : (k : ℕ) (l : List Cap) (i : ℕ) → RisesByLevel l → IsAt l k i → without_cap l k ≡ remove l i
without_cap-at k [] i rises at = absurd (omega (arith, at.in_range))
without_cap-at k (x ∷ l) zero rises at =
    let here : x.0 ≡ k = at.has_level in
    rw (eq-eqb x.0 k here) (without_cap-absent l k (λ j lt same. let up : x.0 < level_at l j = rises 0 (suc j) (omega arith) (omega arith) in omega arith))
without_cap-at k (x ∷ l) (suc i) rises at =
    let below : x.0 < k = first_below x l k i rises at in
    let apart : nat_eq x.0 k ≡ false = ne_eqb x.0 k (λ e. omega arith) in
    rw apart (ap (λ r. x ∷ r) (without_cap-at k l i (rises_tail x l rises) (at_tail x l k i at)))

pub without_cap-gap : (k : ℕ) (l : List Cap) (i : ℕ) → IsGapFor l k i → without_cap l k ≡ l
without_cap-gap k l i gap = without_cap-absent l k (λ j lt same. grind (arith, gap.lower_before j, gap.higher_after j))

-- the cap on a level
found_at : (l : List Cap) (k i : ℕ) → RisesByLevel l → IsAt l k i → option_map (λ (c : Cap). c.1) (find (λ c. nat_eq c.0 k) l) ≡ Some (get_or l i (0, 0)).1
found_at [] k i rises at = absurd (omega (arith, at.in_range))
found_at (x ∷ l) k zero rises at = rw (eq-eqb x.0 k at.has_level) refl
found_at (x ∷ l) k (suc i) rises at =
    let below : x.0 < k = first_below x l k i rises at in
    let apart : nat_eq x.0 k ≡ false = ne_eqb x.0 k (λ e. omega arith) in
    rw apart (found_at l k i (rises_tail x l rises) (at_tail x l k i at))

found_nowhere : (l : List Cap) (k : ℕ) → ((j : ℕ) → j < length l → level_at l j ≡ k → ⊥) → option_map (λ (c : Cap). c.1) (find (λ c. nat_eq c.0 k) l) ≡ None
found_nowhere [] k never = refl
found_nowhere (x ∷ l) k never =
    let apart : nat_eq x.0 k ≡ false = ne_eqb x.0 k (never 0 (omega arith)) in
    rw apart (found_nowhere l k (λ j lt. never (suc j) (omega arith)))

pub cap_of-at : (rules : Rules) (k i : ℕ) → RisesByLevel rules.caps → IsAt rules.caps k i → cap_of rules k ≡ Some (get_or rules.caps i (0, 0)).1
cap_of-at rules k i rises at = found_at rules.caps k i rises at

pub cap_of-gap : (rules : Rules) (k i : ℕ) → IsGapFor rules.caps k i → cap_of rules k ≡ None
cap_of-gap rules k i gap = found_nowhere rules.caps k (λ j lt same. grind (arith, gap.lower_before j, gap.higher_after j))

-- what the edits keep
pub rises-set : (l : List Cap) → RisesByLevel l → (k i : ℕ) → IsAt l k i → (most : ℕ) → RisesByLevel (set l i (k, most))
rises-set l rises k at is_at most i j lt in_range = grind (arith, common_steps, rises i j, rises i at, rises at j, is_at.in_range, is_at.has_level)

pub rises-insert : (l : List Cap) (k at : ℕ) → IsGapFor l k at → (most : ℕ) → RisesByLevel l → RisesByLevel (insert l at (k, most))
rises-insert l k at gap most rises i j lt in_range =
    let new = insert l at (k, most) in
    let level = λ (x : Cap). x.0 in
    let length_new = length-insert l at (k, most) gap.in_range in
    let below : (i : ℕ) → i < at → level_at new i ≡ level_at l i = λ i b. ap level (get_or-insert_below l at (k, most) (0, 0) i b gap.in_range) in
    let here : (i : ℕ) → i ≡ at → level_at new i ≡ k = λ i h. rw h (ap level (get_or-insert_at l at (k, most) (0, 0) gap.in_range)) in
    let above : (i : ℕ) → at < i → level_at new i ≡ level_at l (i - 1) = λ i a. subst (λ q. level_at new q ≡ level_at l (i - 1)) {x = i - 1 + 1} (omega arith) (ap level (get_or-insert_above l at (k, most) (0, 0) (i - 1) (omega arith) gap.in_range)) in
    grind (arith, below i, here i, above i, below j, here j, above j, rises i j, rises i (j - 1), rises (i - 1) (j - 1), gap.lower_before i, gap.higher_after (j - 1))

pub rises-remove : (l : List Cap) → RisesByLevel l → (at : ℕ) → at < length l → RisesByLevel (remove l at)
rises-remove l rises at in_place i j lt in_range =
    let count = length-remove l at in_place in
    let level = λ (x : Cap). x.0 in
    let below : (i : ℕ) → i < at → level_at (remove l at) i ≡ level_at l i = λ i b. ap level (get_or-remove_below l at (0, 0) i b in_place) in
    let above : (i : ℕ) → at ≤ i → level_at (remove l at) i ≡ level_at l (i + 1) = λ i a. ap level (get_or-remove_above l at (0, 0) i a in_place) in
    grind (arith, below i, above i, below j, above j, rises i j, rises i (j + 1), rises (i + 1) (j + 1))
