-- A version cut at its first colon, and what stands behind the epoch.
use Rattle.std.proofs.Common.{◌≡◌, ℕ, suc, ◌+◌, ◌-◌, ◌<◌, List, [], ◌∷◌, ◌++◌, Bool, true, false, cond, not, ◌||◌, ◌&&◌, length, drop, get_or, reverse, refl, ap, sym, subst, ◌∙◌, arith, nat_lt, add-one}
use Rattle.std.specs.List.{list_any, list_all, position_or_len, suffix_len, before_last, after_last}
use Rattle.std.specs.Char.{is_ascii_digit}
use Rattle.std.proofs.Math.Bool.{or-true}
use Rattle.std.proofs.Math.Seq.{take-append_seam}
use Rattle.std.proofs.lemmas.Bool.{and_parts, ltb-true, not-false}
use Rattle.std.proofs.lemmas.Bool.Decides.{nat_tests}
use Rattle.std.proofs.lemmas.List.{length-reverse, get_or-reverse}
use Rattle.std.proofs.lemmas.List.Folds.{list_any-append}
use Rattle.std.proofs.lemmas.List.Sums.{prefix_len_stops}
use Rattle.deb_version.specs.Versions.{is_colon, is_hyphen, has_epoch, epoch_of, rest_of, is_some_of, is_revision_byte, is_upstream_byte, is_version}
use Rattle.lists.proofs.Tests.{list_all_weaker, list_all-around, list_any-place, list_any-reverse}

-- ---- a list cut at its first colon

pub split : (xs : List ℕ) → has_epoch xs ≡ true → (e : List ℕ) × (r : List ℕ) × (xs ≡ e ++ (58 ∷ r)) × (has_epoch e ≡ false)
split [] h = absurd (cc)
split (x ∷ xs) h =
    elim (is_colon x) as (λ b. is_colon x ≡ b → (b || has_epoch xs) ≡ true → (e : List ℕ) × (r : List ℕ) × (x ∷ xs ≡ e ++ (58 ∷ r)) × (has_epoch e ≡ false)) [
      | true ↦ λ t _. let here : x ≡ 58 = grind (arith, nat_tests) in ([], xs, ap (λ y. y ∷ xs) here, refl)
      | false ↦ λ t k. let more = split xs k in (x ∷ more.0, more.1, ap (λ ys. x ∷ ys) more.2, rw t more.3)
    ] refl h

cut_place : (e r : List ℕ) → has_epoch e ≡ false → position_or_len is_colon (e ++ (58 ∷ r)) ≡ length e
cut_place [] r h = refl
cut_place (x ∷ e) r h =
    elim (is_colon x) as (λ b. (b || has_epoch e) ≡ false → cond (not b) (1 + position_or_len is_colon (e ++ (58 ∷ r))) 0 ≡ length (x ∷ e)) [
      | true ↦ λ k. absurd (cc)
      | false ↦ λ k. omega (arith, cut_place e r k)
    ] h

pub drop_front : (e r : List ℕ) (x : ℕ) → drop (suc (length e)) (e ++ (x ∷ r)) ≡ r
drop_front [] r x = refl
drop_front (y ∷ e) r x = drop_front e r x

pub record Cut (e r : List ℕ) : Type 0 where
  pub has : has_epoch (e ++ (58 ∷ r)) ≡ true
  pub front : epoch_of (e ++ (58 ∷ r)) ≡ e
  pub behind : rest_of (e ++ (58 ∷ r)) ≡ r

pub cut : (e r : List ℕ) → has_epoch e ≡ false → Cut e r
cut e r h =
    let any : has_epoch (e ++ (58 ∷ r)) ≡ true = list_any-append is_colon e (58 ∷ r) ∙ or-true (has_epoch e) in
    let place = cut_place e r h in
    record {
      has = any;
      front = rw (any, place) (take-append_seam e (58 ∷ r));
      behind = rw (any, place, add-one) (drop_front e r 58);
    }

-- ---- what stands behind the epoch

abbrev pub is_rest : Bool → List ℕ → Bool
is_rest e rest =
    is_some_of (is_upstream_byte e) (cond (list_any is_hyphen rest) (before_last is_hyphen rest) rest)
    && (not (list_any is_hyphen rest) || is_some_of is_revision_byte (cond (list_any is_hyphen rest) (after_last is_hyphen rest) []))

upstream_from_revision : (e : Bool) (x : ℕ) → is_revision_byte x ≡ true → is_upstream_byte e x ≡ true
upstream_from_revision e x h = rw h refl

upstream_from_hyphen : (e : Bool) (x : ℕ) → is_hyphen x ≡ true → is_upstream_byte e x ≡ true
upstream_from_hyphen e x h = rw h (or-true (is_revision_byte x))

-- every byte of the rest of a version may stand in an upstream part
pub all_upstream : (e : Bool) (r : List ℕ) → is_rest e r ≡ true → list_all (is_upstream_byte e) r ≡ true
all_upstream e r h =
    elim (list_any is_hyphen r) as
    (λ b. list_any is_hyphen r ≡ b
    → (is_some_of (is_upstream_byte e) (cond b (before_last is_hyphen r) r) && (not b || is_some_of is_revision_byte (cond b (after_last is_hyphen r) []))) ≡ true
    → list_all (is_upstream_byte e) r ≡ true) [
      | true ↦ λ t k.
          let s : ℕ = suffix_len (λ x. not (is_hyphen x)) r in
          let parts = and_parts (is_some_of (is_upstream_byte e) (before_last is_hyphen r)) (is_some_of is_revision_byte (after_last is_hyphen r)) k in
          let front = (and_parts (nat_lt 0 (length (before_last is_hyphen r))) (list_all (is_upstream_byte e) (before_last is_hyphen r)) parts.0).1 in
          let back = (and_parts (nat_lt 0 (length (after_last is_hyphen r))) (list_all is_revision_byte (after_last is_hyphen r)) parts.1).1 in
          let short : s < length (reverse r) = ltb-true s (length (reverse r)) (sym (list_any-place is_hyphen (reverse r)) ∙ list_any-reverse is_hyphen r ∙ t) in
          let same : length (reverse r) ≡ length r = length-reverse r in
          let stop = prefix_len_stops (λ x. not (is_hyphen x)) (reverse r) 0 short in
          let place : get_or (reverse r) s 0 ≡ get_or r (length r - 1 - s) 0 = get_or-reverse r s 0 (omega (arith, short)) in
          let swap : length r - 1 - s ≡ length r - s - 1 = omega arith in
          let next : suc (length r - s - 1) ≡ length r - s = omega (arith, short) in
          let hyphen : is_hyphen (get_or r (length r - s - 1) 0) ≡ true =
          not-false _ (let P : ℕ → Type 0 = λ x. not (is_hyphen x) ≡ false in subst P (place ∙ ap (λ m. get_or r m 0) swap) stop) in
          list_all-around (is_upstream_byte e) r (length r - s - 1) front (upstream_from_hyphen e _ hyphen)
          (rw next (list_all_weaker is_revision_byte (is_upstream_byte e) (upstream_from_revision e) (after_last is_hyphen r) back))
      | false ↦ λ t k. (and_parts (nat_lt 0 (length r)) (list_all (is_upstream_byte e) r) (and_parts (is_some_of (is_upstream_byte e) r) true k).0).1
    ] refl h

-- a version by its epoch and what stands behind it
abbrev pub is_whole : Bool → List ℕ → List ℕ → Bool
is_whole has e rest = (not has || is_some_of is_ascii_digit e) && is_rest has rest

is_version-whole : (x : List ℕ) (has : Bool) (e rest : List ℕ) → has_epoch x ≡ has → epoch_of x ≡ e → rest_of x ≡ rest → is_version x ≡ is_whole has e rest
is_version-whole x has e rest p q r = λ i. is_whole (p i) (q i) (r i)

pub whole_plain : (x : List ℕ) → has_epoch x ≡ false → is_version x ≡ is_whole false [] x
whole_plain x h = is_version-whole x false [] x h (rw h refl) (rw h refl)

pub whole_epoch : (e r : List ℕ) → has_epoch e ≡ false → is_version (e ++ (58 ∷ r)) ≡ is_whole true e r
whole_epoch e r h = let parts = cut e r h in is_version-whole (e ++ (58 ∷ r)) true e r parts.has parts.front parts.behind
