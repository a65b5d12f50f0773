-- The numbers in a range that are not among the met ones.
use Rattle.std.proofs.Common.{◌≡◌, ◌≢◌, ◌<◌, ◌≤◌, ◌+◌, ℕ, List, [], ◌∷◌, ◌++◌, true, false, ◌&&◌, not, length, refl, ap, sym, ◌∙◌, arith, nat_lt, nat_le, nat_eq, get_or}
use Rattle.std.specs.List.{list_all}
use Rattle.std.proofs.lemmas.Bool.{and_from, le-leb, le-ltb, lt-ltb, ltb-true, and_right}
use Rattle.std.proofs.lemmas.Bool.Decides.{nat_tests}
use Rattle.lists.proofs.Below.{filter-below_none, filter-below_yes, filter-below_no, is_rising-below, list_all-below}
use Rattle.lists.proofs.Sets.{has_none, has_at, rising_at, rising_upto, is_rising-filter}
use Rattle.lists.proofs.Tests.{list_all-filter, list_all_weaker}
use Rattle.lists.specs.Below.{below}
use Rattle.lists.specs.Sets.{is_rising, has}
use Rattle.resolver_model.specs.Problems.{Problem, version_count}
use Rattle.problem.specs.Places.{absent_of, end_of}
use Rattle.problem.proofs.Ranges.{end_of-range}
use Rattle.requirement_list.specs.Conflicts.{unmet, left_of, AreLeft}

pub unmet_none : (met : List ℕ) (first : ℕ) → unmet met first first ≡ []
unmet_none met first = filter-below_none (λ v. nat_le first v && not (has met v)) first (λ c lt. let no : nat_le first c ≡ false = grind (arith, nat_tests) in rw no refl)

pub unmet_yes : (met : List ℕ) (first v : ℕ) → first ≤ v → has met v ≡ false → unmet met first (v + 1) ≡ unmet met first v ++ v ∷ []
unmet_yes met first v le h = filter-below_yes (λ v. nat_le first v && not (has met v)) v (and_from (nat_le first v) _ (le-leb first v le) (ap not h))

pub unmet_no : (met : List ℕ) (first v : ℕ) → has met v ≡ true → unmet met first (v + 1) ≡ unmet met first v
unmet_no met first v h = filter-below_no (λ v. nat_le first v && not (has met v)) v (and_right (nat_le first v) _ (ap not h))

-- a number that the met ones pass over
pub has_not : (met : List ℕ) → is_rising met ≡ true → (place v : ℕ) → ((k : ℕ) → k < place → get_or met k 0 < v) → (place < length met → v < get_or met place 0) → has met v ≡ false
has_not met rising place v before after = has_none met v apart
  where
    apart : (k : ℕ) → k < length met → get_or met k 0 ≢ v
    apart k lt e =
        elim (nat_lt k place) as (λ r. nat_lt k place ≡ r → ⊥) [
          | true ↦ λ t. omega (arith, before k (grind (arith, nat_tests)))
          | false ↦ λ f.
              let le : place ≤ k = grind (arith, nat_tests) in
              omega (arith, rising_upto met rising place k le lt, after (omega arith))
        ] refl

-- whether a number is met, by what stands at the place
pub has_here : (met : List ℕ) → is_rising met ≡ true → (place v : ℕ) → ((k : ℕ) → k < place → get_or met k 0 < v) → (place < length met → v ≤ get_or met place 0) → place < length met
    → nat_eq (get_or met place 0) v ≡ has met v
has_here met rising place v before after lt =
    elim (nat_eq (get_or met place 0) v) as (λ r. nat_eq (get_or met place 0) v ≡ r → r ≡ has met v) [
      | true ↦ λ e. let same : get_or met place 0 ≡ v = grind (arith, nat_tests) in sym (has_at met v place lt same)
      | false ↦ λ e.
          let up : v ≤ get_or met place 0 = after lt in
          let above : v < get_or met place 0 = grind (arith, nat_tests) in
          sym (has_not met rising place v before (λ _. above))
    ] refl

pub has_none_left : (met : List ℕ) → is_rising met ≡ true → (place v : ℕ) → ((k : ℕ) → k < place → get_or met k 0 < v) → length met ≤ place → nat_lt place (length met) ≡ has met v
has_none_left met rising place v before le =
    le-ltb place (length met) le ∙ sym (has_not met rising place v before (λ lt. absurd (omega arith)))

-- where the number at a place is passed
pub met_before : (met : List ℕ) → is_rising met ≡ true → (place v : ℕ) → place < length met → get_or met place 0 ≡ v → (k : ℕ) → k < place + 1 → get_or met k 0 < v + 1
met_before met rising place v lt e k less = omega (arith, rising_upto met rising k place (omega arith) lt)

pub met_after : (met : List ℕ) → is_rising met ≡ true → (place v : ℕ) → get_or met place 0 ≡ v → place + 1 < length met → v + 1 ≤ get_or met (place + 1) 0
met_after met rising place v e lt = omega (arith, rising_at met rising place (place + 1) (omega arith) lt)

-- ---- they rise, and are before the end

pub unmet_rises : (met : List ℕ) (first end : ℕ) → is_rising (unmet met first end) ≡ true
unmet_rises met first end = is_rising-filter (λ v. nat_le first v && not (has met v)) (below end) (is_rising-below end)

pub unmet_within : (met : List ℕ) (first end count : ℕ) → end ≤ count → list_all (λ v. nat_lt v count) (unmet met first end) ≡ true
unmet_within met first end count le =
    list_all-filter (λ v. nat_lt v count) (λ v. nat_le first v && not (has met v)) (below end)
    (list_all_weaker (λ v. nat_lt v end) (λ v. nat_lt v count) (λ v h. lt-ltb v count (omega (arith, ltb-true v end h))) (below end) (list_all-below end))

pub are_left : (p : Problem) (met : List ℕ) (q first end : ℕ) (targets : List ℕ) → first ≡ absent_of p q → end ≡ end_of p q → targets ≡ unmet met first end → AreLeft p met q targets
are_left p met q first end targets a b e =
    let whole : targets ≡ left_of p met q = e ∙ ap (λ n. unmet met n end) a ∙ ap (unmet met (absent_of p q)) b in
    record {
      numbers = whole;
      rising = rw whole (unmet_rises met (absent_of p q) (end_of p q));
      range = rw whole (unmet_within met (absent_of p q) (end_of p q) (version_count p) (end_of-range p q));
    }
