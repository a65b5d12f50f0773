-- A group of Recommends is found by halves among the dependencies of a version, which stand in order.
use Rattle.std.proofs.Common.{◌≡◌, ℕ, ◌+◌, ◌<◌, ◌≤◌, Bool, true, false, cond, not, ◌&&◌, ◌==◌, length, get_or, refl, sym, ap, ◌∙◌, inl, inr, arith, Some, None, position, nat_lt, eq-eqb, eqb-true, ltb-true, ltb-false, lt-ltb, eq-or-lt_of_le, AllPairs}
use Rattle.std.specs.List.{filter}
use Rattle.std.specs.List.Sorted.{IsPartitionedBy}
use Rattle.std.proofs.lemmas.Bool.{and_from, and_parts, both_ways, cases_lt, false_from_ne_true}
use Rattle.std.proofs.lemmas.List.{get_or_default}
use Rattle.lists.specs.Below.{below}
use Rattle.lists.proofs.Below.{has-below_back, is_rising-below}
use Rattle.lists.proofs.Sets.{has_at, has-filter_parts, is_rising-filter, rising_at}
use Rattle.laws_universe.specs.Standing.{is_before, StaysBefore}
use Rattle.laws_universe.proofs.Places.{position-some}
use Rattle.universe_model.specs.Dependencies.{Requirement}
use Rattle.universe_model.specs.Tokens.{is_recommends_of}
use Rattle.universe_model.specs.Universes.{Universe, no_requirement, requirement_numbered}
use Rattle.universe.proofs.Owned.{owned-none, owned-before}
use Rattle.universe.proofs.Walks.{position-none}

-- ---- one dependency

record IsRecommends (v place : ℕ) (r : Requirement) : Type 0 where
  soft : r.dependency.soft ≡ true
  source : r.dependency.source ≡ v
  group : r.group ≡ place

recommends-parts : (v place : ℕ) (r : Requirement) → is_recommends_of v place r ≡ true → IsRecommends v place r
recommends-parts v place r h =
    let both = and_parts (r.dependency.soft && (r.dependency.source == v)) (r.group == place) h in
    let front = and_parts r.dependency.soft (r.dependency.source == v) both.0 in
    record { soft = front.0; source = eqb-true r.dependency.source v front.1; group = eqb-true r.group place both.1 }

recommends-from : (v place : ℕ) (r : Requirement) → IsRecommends v place r → is_recommends_of v place r ≡ true
recommends-from v place r is =
    and_from (r.dependency.soft && (r.dependency.source == v)) (r.group == place)
    (and_from r.dependency.soft (r.dependency.source == v) is.soft (eq-eqb r.dependency.source v is.source)) (eq-eqb r.group place is.group)

before-soft : (place : ℕ) (r : Requirement) → r.dependency.soft ≡ true → is_before place r ≡ nat_lt r.group place
before-soft place r soft = ap (λ b. cond b (nat_lt r.group place) (not r.conflict)) soft

-- what stands before a group is not that group
before-other : (v place : ℕ) (r : Requirement) → is_before place r ≡ true → is_recommends_of v place r ≡ false
before-other v place r before =
    false_from_ne_true (is_recommends_of v place r)
    (λ h.
    let is = recommends-parts v place r h in
    let less : r.group < place = ltb-true r.group place (sym (before-soft place r is.soft) ∙ before) in
    absurd (omega (arith, is.group)))

-- what does not stand before a group, and has that group or a later one behind it, is that group
reached : (v place : ℕ) (r later : Requirement) → StaysBefore r later → r.dependency.source ≡ v → is_before place r ≡ false → is_recommends_of v place later ≡ true → is_recommends_of v place r ≡ true
reached v place r later stays source reaches h = by r.dependency.soft refl
  where
    is : IsRecommends v place later
    is = recommends-parts v place later h

    up : is_before (place + 1) r ≡ true
    up = stays (source ∙ sym is.source) (place + 1) (before-soft (place + 1) later is.soft ∙ lt-ltb later.group (place + 1) (omega (arith, is.group)))

    by : (b : Bool) → r.dependency.soft ≡ b → is_recommends_of v place r ≡ true
    by true soft =
        let below_next : r.group < place + 1 = ltb-true r.group (place + 1) (sym (before-soft (place + 1) r soft) ∙ up) in
        let not_below : place ≤ r.group = ltb-false r.group place (sym (before-soft place r soft) ∙ reaches) in
        recommends-from v place r (record { soft = soft; source = source; group = omega arith })
    by false hard =
        let open_at : (n : ℕ) → is_before n r ≡ not r.conflict = λ n. ap (λ b. cond b (nat_lt r.group n) (not r.conflict)) hard in
        absurd (both_ways (not r.conflict) (sym (open_at place) ∙ reaches) (sym (open_at (place + 1)) ∙ up))

-- ---- all of a version

module _ (u : Universe) (ordered : AllPairs StaysBefore u.requirements) (v place n : ℕ) (count : n ≡ length u.requirements)
    (mine : ℕ → Bool) (is_mine : (k : ℕ) → mine k ≡ ((requirement_numbered u k).dependency.source == v)) where
  abbrev pub test : ℕ → Bool
  test k = is_recommends_of v place (requirement_numbered u k)

  within : (j : ℕ) → j < length (filter mine (below n)) → get_or (filter mine (below n)) j 0 < n
  within j l = has-below_back n (get_or (filter mine (below n)) j 0) (has-filter_parts mine (below n) (get_or (filter mine (below n)) j 0) (has_at (filter mine (below n)) (get_or (filter mine (below n)) j 0) j l refl)).1

  source : (j : ℕ) → j < length (filter mine (below n)) → (requirement_numbered u (get_or (filter mine (below n)) j 0)).dependency.source ≡ v
  source j l =
      let k : ℕ = get_or (filter mine (below n)) j 0 in
      eqb-true (requirement_numbered u k).dependency.source v
      (sym (is_mine k) ∙ (has-filter_parts mine (below n) k (has_at (filter mine (below n)) k j l refl)).0)

  stays : (i j : ℕ) → i < j → j < length (filter mine (below n)) → StaysBefore (requirement_numbered u (get_or (filter mine (below n)) i 0)) (requirement_numbered u (get_or (filter mine (below n)) j 0))
  stays i j less l =
      ordered (get_or (filter mine (below n)) i 0) (get_or (filter mine (below n)) j 0) no_requirement
      (rising_at (filter mine (below n)) (is_rising-filter mine (below n) (is_rising-below n)) i j less l) (omega (arith, count, within j l))

  own : (k : ℕ) → k < n → test k ≡ true → mine k ≡ true
  own k less h = is_mine k ∙ eq-eqb (requirement_numbered u k).dependency.source v (recommends-parts v place (requirement_numbered u k) h).source

  parted-at : (i j : ℕ) → i ≤ j → j < length (filter mine (below n)) → is_before place (requirement_numbered u (get_or (filter mine (below n)) j 0)) ≡ true
      → is_before place (requirement_numbered u (get_or (filter mine (below n)) i 0)) ≡ true
  parted-at i j low l h =
      elim (eq-or-lt_of_le {n = i} {m = j} low) as (λ _. is_before place (requirement_numbered u (get_or (filter mine (below n)) i 0)) ≡ true) [
        | inl same ↦ ap (λ k. is_before place (requirement_numbered u (get_or (filter mine (below n)) k 0))) same ∙ h
        | inr less ↦ stays i j less l (source i (omega arith) ∙ sym (source j l)) place h
      ]

  pub parted : IsPartitionedBy (λ d. is_before place (requirement_numbered u d)) (filter mine (below n))
  parted i j d low l h =
      let at : (k : ℕ) → k < length (filter mine (below n)) → get_or (filter mine (below n)) k d ≡ get_or (filter mine (below n)) k 0
      = λ k less. get_or_default (filter mine (below n)) k d 0 less in
      ap (λ k. is_before place (requirement_numbered u k)) (at i (omega arith))
      ∙ parted-at i j low l (sym (ap (λ k. is_before place (requirement_numbered u k)) (at j l)) ∙ h)

  -- what does not stand before the group is it, if what is behind is
  reached-at : (i j : ℕ) → i ≤ j → j < length (filter mine (below n)) → is_before place (requirement_numbered u (get_or (filter mine (below n)) i 0)) ≡ false
      → test (get_or (filter mine (below n)) j 0) ≡ true → test (get_or (filter mine (below n)) i 0) ≡ true
  reached-at i j low l reaches h =
      elim (eq-or-lt_of_le {n = i} {m = j} low) as (λ _. test (get_or (filter mine (below n)) i 0) ≡ true) [
        | inl same ↦ ap (λ k. test (get_or (filter mine (below n)) k 0)) same ∙ h
        | inr less ↦
            reached v place (requirement_numbered u (get_or (filter mine (below n)) i 0)) (requirement_numbered u (get_or (filter mine (below n)) j 0))
            (stays i j less l) (source i (omega arith)) reaches h
      ]

  pub group-found : (i : ℕ) → i < length (filter mine (below n)) → ((j : ℕ) → j < i → is_before place (requirement_numbered u (get_or (filter mine (below n)) j 0)) ≡ true)
      → test (get_or (filter mine (below n)) i 0) ≡ true → position (is_recommends_of v place) u.requirements ≡ Some (get_or (filter mine (below n)) i 0)
  group-found i l front h =
      position-some (is_recommends_of v place) u.requirements (get_or (filter mine (below n)) i 0) no_requirement (omega (arith, count, within i l))
      (λ k less. owned-before test mine n own i (λ j before. before-other v place (requirement_numbered u (get_or (filter mine (below n)) j 0)) (front j before)) k (omega (arith, less, within i l)) less) h

  pub group-missing : (i : ℕ) → ((j : ℕ) → j < i → is_before place (requirement_numbered u (get_or (filter mine (below n)) j 0)) ≡ true)
      → (i < length (filter mine (below n)) → is_before place (requirement_numbered u (get_or (filter mine (below n)) i 0)) ≡ false)
      → (i < length (filter mine (below n)) → test (get_or (filter mine (below n)) i 0) ≡ false)
      → position (is_recommends_of v place) u.requirements ≡ None
  group-missing i front behind other =
      position-none (is_recommends_of v place) u.requirements no_requirement (λ k less. owned-none test mine n own none k (omega (arith, count, less)))
    where
      none : (j : ℕ) → j < length (filter mine (below n)) → test (get_or (filter mine (below n)) j 0) ≡ false
      none j l =
          elim (cases_lt j i) [
            | inl less ↦ before-other v place (requirement_numbered u (get_or (filter mine (below n)) j 0)) (front j less)
            | inr late ↦
                false_from_ne_true (test (get_or (filter mine (below n)) j 0))
                (λ h. both_ways (test (get_or (filter mine (below n)) i 0)) (other (omega arith)) (reached-at i j late l (behind (omega arith)) h))
          ]
