-- The packages that an item concerns, found by a walk over the versions that meet it.
use Rattle.std.proofs.Common.{inl, inr, ◌≡◌, ◌≢◌, ◌<◌, ◌≤◌, ◌+◌, ℕ, zero, suc, List, [], ◌∷◌, Bool, true, false, ◌&&◌, ◌||◌, not, cond, length, map, refl, ap, sym, ◌∙◌, arith, nat_lt, nat_le, nat_eq, get_or}
use Rattle.std.specs.List.{filter, list_all}
use Rattle.std.proofs.lemmas.Bool.{and_from, and_parts, lt-ltb, le-ltb, ltb-true, ltb-false, le-leb, eqb-true, eq-eqb, false_from_ne_true, and_right}
use Rattle.std.proofs.lemmas.Bool.Decides.{nat_tests}
use Rattle.std.proofs.lemmas.List.{length-map}
use Rattle.std.proofs.Math.Nat.{eq-or-lt_of_le}
use Rattle.lists.proofs.Below.{is_rising-below, filter-below_none, has-below}
use Rattle.lists.proofs.Sets.{has_at, is_rising-filter, rising_upto, rising_same, has-filter, has_place}
use Rattle.lists.proofs.Tests.{list_all-filter_weaker}
use Rattle.lists.specs.Below.{below}
use Rattle.lists.specs.Sets.{is_rising, has}
use Rattle.resolver_model.specs.Problems.{Problem, IsWellFormed, package_of, version_count}
use Rattle.problem.specs.Places.{absent_of, end_of}
use Rattle.problem.proofs.Ranges.{package_from, place_from, end_of-range, less_in_front}
use Rattle.universe_model.specs.Lists.{numbers_of}
use Rattle.universe_model.specs.Versions.{Version, is_of}
use Rattle.universe_model.specs.Meeting.{meets}
use Rattle.universe_model.specs.Dependencies.{Setting, is_met_in, unmet_in}
use Rattle.dep_fields.specs.Relationships.{Relationship}
use Rattle.requirement_list.specs.declared.answers.Extent.{Extent}
use Rattle.requirement_list.specs.Extents.{lists}
use Rattle.requirement_list.specs.Left.{Left}
use Rattle.requirement_list.specs.Answers.{left_by}
use Rattle.requirement_list.specs.Settings.{owners_of}
use Rattle.requirement_list.specs.Conflicts.{left_of, package_left}
use Rattle.requirement_list.proofs.Numbers.{passes, has_numbers, numbers_rise}
use Rattle.requirement_list.proofs.Unmet.{unmet_rises}
use Rattle.requirement_list.proofs.Meets.{passes_any, any_passes, passes_both, passes_not, passes_past, passes_owner, passes_there}

-- ---- the versions of a package that an item leaves

and_swap : (a n b : Bool) → ((a && n) && b) ≡ ((a && b) && n)
and_swap true true true = refl
and_swap true true false = refl
and_swap true false true = refl
and_swap true false false = refl
and_swap false n b = refl

in_package : (p : Problem) → IsWellFormed p → (q c : ℕ) → c < version_count p → (nat_le (absent_of p q) c && nat_lt c (end_of p q)) ≡ nat_eq (package_of p c) q
in_package p w q c lt =
    elim (nat_eq (package_of p c) q) as (λ r. nat_eq (package_of p c) q ≡ r → (nat_le (absent_of p q) c && nat_lt c (end_of p q)) ≡ r) [
      | true ↦ λ e.
          let place = place_from p w q c lt (eqb-true (package_of p c) q e) in
          and_from (nat_le (absent_of p q) c) _ (le-leb (absent_of p q) c place.0) (lt-ltb c (end_of p q) place.1)
      | false ↦ λ e. false_from_ne_true _ (λ both.
          let parts = and_parts (nat_le (absent_of p q) c) _ both in
          let low : absent_of p q ≤ c = grind (arith, nat_tests) in
          let same : package_of p c ≡ q = package_from p w q c lt low (ltb-true c (end_of p q) parts.1) in
          let yes : nat_eq (package_of p c) q ≡ true = eq-eqb (package_of p c) q same in
          absurd (cc))
    ] refl

abbrev pub met_of : Setting → Relationship → List ℕ
met_of s item = numbers_of (meets s.native item) s.versions

pub left_unmet : (s : Setting) (item : Relationship) (p : Problem) → IsWellFormed p → p.owners ≡ owners_of s.versions → (q : ℕ) → left_of p (met_of s item) q ≡ unmet_in s item q
left_unmet s item p w e q =
    rising_same (left_of p met q) (unmet_in s item q) (unmet_rises met (absent_of p q) (end_of p q)) (numbers_rise other s.versions) (λ c. lhs c ∙ same c ∙ sym (has_numbers other s.versions c))
  where
    met : List ℕ
    met = met_of s item

    other : Version → Bool
    other v = is_of q v && not (meets s.native item v)

    lhs : (c : ℕ) → has (left_of p met q) c ≡ ((nat_le (absent_of p q) c && not (passes (meets s.native item) s.versions c)) && nat_lt c (end_of p q))
    lhs c =
        has-filter (λ v. nat_le (absent_of p q) v && not (has met v)) (below (end_of p q)) c
        ∙ ap (λ r. (nat_le (absent_of p q) c && not (has met c)) && r) (has-below (end_of p q) c)
        ∙ ap (λ r. (nat_le (absent_of p q) c && not r) && nat_lt c (end_of p q)) (has_numbers (meets s.native item) s.versions c)

    owner : (c : ℕ) → package_of p c ≡ get_or (owners_of s.versions) c 0
    owner c = ap (λ os. get_or os c 0) e

    size : version_count p ≡ length s.versions
    size = ap length e ∙ length-map s.versions (λ (v : Version). v.package_number)

    within : (c : ℕ) → c < length s.versions → ((nat_le (absent_of p q) c && not (passes (meets s.native item) s.versions c)) && nat_lt c (end_of p q)) ≡ passes other s.versions c
    within c lt =
        and_swap (nat_le (absent_of p q) c) (not (passes (meets s.native item) s.versions c)) (nat_lt c (end_of p q))
        ∙ ap (λ r. r && not (passes (meets s.native item) s.versions c)) (in_package p w q c (omega (arith, size)) ∙ ap (λ o. nat_eq o q) (owner c) ∙ sym (passes_owner q s.versions c lt))
        ∙ ap (λ r. passes (is_of q) s.versions c && r) (sym (passes_not (meets s.native item) s.versions c lt))
        ∙ sym (passes_both (is_of q) (λ v. not (meets s.native item v)) s.versions c)

    past : (c : ℕ) → length s.versions ≤ c → ((nat_le (absent_of p q) c && not (passes (meets s.native item) s.versions c)) && nat_lt c (end_of p q)) ≡ passes other s.versions c
    past c le =
        and_right (nat_le (absent_of p q) c && not (passes (meets s.native item) s.versions c)) (nat_lt c (end_of p q)) (le-ltb c (end_of p q) (omega (arith, size, end_of-range p q)))
        ∙ sym (passes_past other s.versions c le)

    same : (c : ℕ) → ((nat_le (absent_of p q) c && not (passes (meets s.native item) s.versions c)) && nat_lt c (end_of p q)) ≡ passes other s.versions c
    same c =
        elim (nat_lt c (length s.versions)) as (λ r. nat_lt c (length s.versions) ≡ r → ((nat_le (absent_of p q) c && not (passes (meets s.native item) s.versions c)) && nat_lt c (end_of p q)) ≡ passes other s.versions c) [
          | true ↦ λ t. within c (ltb-true c (length s.versions) t)
          | false ↦ λ f. past c (ltb-false c (length s.versions) f)
        ] refl

-- ---- the packages that an item concerns

-- those from one package on
abbrev pub packages_from : Setting → Relationship → ℕ → List ℕ
packages_from s item next = filter (λ q. nat_le next q && is_met_in s item q) (below (length s.installed))

-- the package of the met version at a place
abbrev pub owner_at : Setting → Relationship → ℕ → ℕ
owner_at s item k = get_or (owners_of s.versions) (get_or (met_of s item) k 0) 0

-- a package of no met version
pub none_met : (s : Setting) (item : Relationship) (q : ℕ) → ((k : ℕ) → k < length (met_of s item) → owner_at s item k ≢ q) → is_met_in s item q ≡ false
none_met s item q h =
    false_from_ne_true _ (λ any.
    let m = meets s.native item in
    let there = passes_any (λ v. is_of q v && m v) s.versions any in
    let n = there.0 in
    let parts = and_parts (passes (is_of q) s.versions n) (passes m s.versions n) (sym (passes_both (is_of q) m s.versions n) ∙ there.1) in
    let at = has_place (met_of s item) n (has_numbers m s.versions n ∙ parts.1) in
    let lt : n < length s.versions = passes_there m s.versions n parts.1 in
    let own : get_or (owners_of s.versions) n 0 ≡ q = eqb-true (get_or (owners_of s.versions) n 0) q (sym (passes_owner q s.versions n lt) ∙ parts.0) in
    h at.0 at.1 (ap (λ v. get_or (owners_of s.versions) v 0) at.2 ∙ own))

-- the package of a met version
pub one_met : (s : Setting) (item : Relationship) (k : ℕ) → k < length (met_of s item) → is_met_in s item (owner_at s item k) ≡ true
one_met s item k lt =
    let m = meets s.native item in
    let n = get_or (met_of s item) k 0 in
    let q = owner_at s item k in
    let met : passes m s.versions n ≡ true = sym (has_numbers m s.versions n) ∙ has_at (met_of s item) n k lt refl in
    let of_it : passes (is_of q) s.versions n ≡ true = passes_owner q s.versions n (passes_there m s.versions n met) ∙ eq-eqb q q refl in
    any_passes (λ v. is_of q v && m v) s.versions n (passes_both (is_of q) m s.versions n ∙ and_from _ _ of_it met)

pub packages_none : (s : Setting) (item : Relationship) (next : ℕ) → ((k : ℕ) → k < length (met_of s item) → owner_at s item k < next) → packages_from s item next ≡ []
packages_none s item next h = filter-below_none (λ q. nat_le next q && is_met_in s item q) (length s.installed) each
  where
    each : (q : ℕ) → q < length s.installed → (nat_le next q && is_met_in s item q) ≡ false
    each q lt =
        elim (nat_le next q) as (λ r. nat_le next q ≡ r → (r && is_met_in s item q) ≡ false) [
          | true ↦ λ t. let le : next ≤ q = grind (arith, nat_tests) in
              none_met s item q (λ k less same. omega (arith, h k less))
          | false ↦ λ _. refl
        ] refl

-- ---- the next package of the walk

-- the packages of versions do not fall
owners_rise : (p : Problem) → IsWellFormed p → (i j : ℕ) → i ≤ j → j < version_count p → package_of p i ≤ package_of p j
owners_rise p w i zero le lt = let e : i ≡ 0 = omega arith in rw e (omega arith)
owners_rise p w i (suc j) le lt =
    elim (eq-or-lt_of_le {n = i} {m = suc j} le) as (λ _. package_of p i ≤ package_of p (suc j)) [
      | inl e ↦ rw e (omega arith)
      | inr less ↦
          let next : suc j ≡ j + 1 = omega arith in
          let up : package_of p j ≤ package_of p (j + 1) = w.together j (omega arith) in
          let step : package_of p j ≤ package_of p (suc j) = rw next up in
          omega (arith, owners_rise p w i j (omega arith) (omega arith))
    ]

-- the same for any other number than the next one that passes
front : (t : ℕ → Bool) (next q c : ℕ) → next ≤ q → (next ≤ c → c < q → t c ≡ false) → nat_eq q c ≡ false → (nat_le next c && t c) ≡ (nat_le (q + 1) c && t c)
front t next q c le none e =
    elim (nat_lt c q) as (λ r. nat_lt c q ≡ r → (nat_le next c && t c) ≡ (nat_le (q + 1) c && t c)) [
      | true ↦ λ less.
          let under : c < q = ltb-true c q less in
          let no : nat_le (q + 1) c ≡ false = grind (arith, nat_tests) in
          rw no (elim (nat_le next c) as (λ r. nat_le next c ≡ r → (r && t c) ≡ false) [
            | true ↦ λ a. let from : next ≤ c = grind (arith, nat_tests) in none from under
            | false ↦ λ _. refl
          ] refl)
      | false ↦ λ more.
          let over : q ≤ c = ltb-false c q more in
          let apart : q + 1 ≤ c = grind (arith, nat_tests) in
          rw (le-leb (q + 1) c apart, le-leb next c (omega arith)) refl
    ] refl

-- whether a number is one from a place on, by whether it is the next one that passes
same_at : (t : ℕ → Bool) (next q n c : ℕ) → next ≤ q → q < n → (next ≤ c → c < q → t c ≡ false) → (c ≡ q → t c ≡ true)
    → ((nat_le next c && t c) && nat_lt c n) ≡ (nat_eq q c || ((nat_le (q + 1) c && t c) && nat_lt c n))
same_at t next q n c le lt none here =
    elim (nat_eq q c) as (λ r. nat_eq q c ≡ r → ((nat_le next c && t c) && nat_lt c n) ≡ (r || ((nat_le (q + 1) c && t c) && nat_lt c n))) [
      | true ↦ λ e.
          let same : q ≡ c = eqb-true q c e in
          let low : nat_le next c ≡ true = le-leb next c (omega arith) in
          let high : nat_lt c n ≡ true = lt-ltb c n (omega arith) in
          rw (low, high, here (sym same)) refl
      | false ↦ λ e. ap (λ r. r && nat_lt c n) (front t next q c le none e)
    ] refl

-- one test's numbers from a place on, where none passes before a later place
has_from_on : (t : ℕ → Bool) (next n c : ℕ) → has (filter (λ x. nat_le next x && t x) (below n)) c ≡ ((nat_le next c && t c) && nat_lt c n)
has_from_on t next n c = has-filter (λ x. nat_le next x && t x) (below n) c ∙ ap (λ r. (nat_le next c && t c) && r) (has-below n c)

split_yes : (t : ℕ → Bool) (next q n : ℕ) → next ≤ q → q < n → ((r : ℕ) → next ≤ r → r < q → t r ≡ false) → t q ≡ true
    → filter (λ x. nat_le next x && t x) (below n) ≡ q ∷ filter (λ x. nat_le (q + 1) x && t x) (below n)
split_yes t next q n le lt none yes_q =
    rising_same (filter (λ x. nat_le next x && t x) (below n)) (q ∷ rest)
    (is_rising-filter (λ x. nat_le next x && t x) (below n) (is_rising-below n))
    (and_from (list_all (λ y. nat_lt q y) rest) _ (list_all-filter_weaker (λ x. nat_le (q + 1) x && t x) (λ y. nat_lt q y) above (below n)) (is_rising-filter (λ x. nat_le (q + 1) x && t x) (below n) (is_rising-below n)))
    (λ c. has_from_on t next n c ∙ same c ∙ ap (λ r. nat_eq q c || r) (sym (has_from_on t (q + 1) n c)))
  where
    rest : List ℕ
    rest = filter (λ x. nat_le (q + 1) x && t x) (below n)

    above : (c : ℕ) → (nat_le (q + 1) c && t c) ≡ true → nat_lt q c ≡ true
    above c h = let part : nat_le (q + 1) c ≡ true = (and_parts _ _ h).0 in grind (arith, nat_tests)

    same : (c : ℕ) → ((nat_le next c && t c) && nat_lt c n) ≡ (nat_eq q c || ((nat_le (q + 1) c && t c) && nat_lt c n))
    same c = same_at t next q n c le lt (none c) (λ e. ap t e ∙ yes_q)

-- a problem with the packages of the versions
pub version_size : (p : Problem) (vs : List Version) → p.owners ≡ owners_of vs → version_count p ≡ length vs
version_size p vs e = ap length e ∙ length-map vs (λ (v : Version). v.package_number)

owner_is : (p : Problem) (vs : List Version) → p.owners ≡ owners_of vs → (c : ℕ) → package_of p c ≡ get_or (owners_of vs) c 0
owner_is p vs e c = ap (λ os. get_or os c 0) e

-- a met version is one
pub met_there : (s : Setting) (item : Relationship) (p : Problem) → p.owners ≡ owners_of s.versions → (k : ℕ) → k < length (met_of s item) → get_or (met_of s item) k 0 < version_count p
met_there s item p e k lt =
    let m = meets s.native item in
    let n = get_or (met_of s item) k 0 in
    omega (arith, version_size p s.versions e, passes_there m s.versions n (sym (has_numbers m s.versions n) ∙ has_at (met_of s item) n k lt refl))

-- Where the met versions before a place are of packages before the next one, the package of the version at the place is the
-- first from there on that has a met version.
pub packages_next : (s : Setting) (item : Relationship) (p : Problem) → IsWellFormed p → p.owners ≡ owners_of s.versions → p.starts ≡ s.installed
    → (k next : ℕ) → k < length (met_of s item) → next ≤ owner_at s item k → ((j : ℕ) → j < k → owner_at s item j < next)
    → packages_from s item next ≡ owner_at s item k ∷ packages_from s item (owner_at s item k + 1)
packages_next s item p w e installed k next lt le before = split_yes (is_met_in s item) next q count le range none (one_met s item k lt)
  where
    met : List ℕ
    met = met_of s item

    q : ℕ
    q = owner_at s item k

    count : ℕ
    count = length s.installed

    owner : (c : ℕ) → package_of p c ≡ get_or (owners_of s.versions) c 0
    owner c = owner_is p s.versions e c

    there : (j : ℕ) → j < length met → get_or met j 0 < version_count p
    there j less = met_there s item p e j less

    range : q < count
    range = omega (arith, owner (get_or met k 0), w.owners (get_or met k 0) (there k lt), ap length installed)

    later : (j : ℕ) → j < length met → k ≤ j → q ≤ owner_at s item j
    later j less from =
        let up = owners_rise p w (get_or met k 0) (get_or met j 0) (rising_upto met (numbers_rise (meets s.native item) s.versions) k j from less) (there j less) in
        omega (arith, owner (get_or met k 0), owner (get_or met j 0), up)

    none : (r : ℕ) → next ≤ r → r < q → is_met_in s item r ≡ false
    none r from upto = none_met s item r apart
      where
        apart : (j : ℕ) → j < length met → owner_at s item j ≢ r
        apart j less same =
            elim (nat_lt j k) as (λ b. nat_lt j k ≡ b → ⊥) [
              | true ↦ λ t. omega (arith, before j (ltb-true j k t))
              | false ↦ λ f. omega (arith, later j less (ltb-false j k f))
            ] refl

-- the versions that are met before the place stand before the package's, and the one at the place is one of it
pub met_earlier : (s : Setting) (item : Relationship) (p : Problem) → IsWellFormed p → p.owners ≡ owners_of s.versions → (k next : ℕ) → k < length (met_of s item) → next ≤ owner_at s item k
    → ((j : ℕ) → j < k → owner_at s item j < next) → (j : ℕ) → j < k → get_or (met_of s item) j 0 < absent_of p (owner_at s item k)
met_earlier s item p w e k next lt le before j less =
    let n = get_or (met_of s item) j 0 in
    let q = owner_at s item k in
    let there : n < version_count p = met_there s item p e j (omega arith) in
    let own : package_of p n < q = omega (arith, before j less, owner_is p s.versions e n) in
    ltb-true n (absent_of p q) (sym (less_in_front q p.owners w.together n there) ∙ lt-ltb (package_of p n) q own)

pub met_from : (s : Setting) (item : Relationship) (p : Problem) → IsWellFormed p → p.owners ≡ owners_of s.versions → (k : ℕ) → k < length (met_of s item)
    → absent_of p (owner_at s item k) ≤ get_or (met_of s item) k 0
met_from s item p w e k lt =
    let n = get_or (met_of s item) k 0 in
    (place_from p w (owner_at s item k) n (met_there s item p e k lt) (owner_is p s.versions e n)).0

-- ---- the walk

-- A walk over the met versions stands at a place: the packages before the next one are done.
pub record IsWalk (s : Setting) (item : Relationship) (p : Problem) (met : List ℕ) (place next : ℕ) : Type 0 where
  pub owners : p.owners ≡ owners_of s.versions
  pub starts : p.starts ≡ s.installed
  pub all_met : met ≡ met_of s item
  pub there : place < length met
  pub passed : (k : ℕ) → k < place → owner_at s item k < next

walk_there : (s : Setting) (item : Relationship) (p : Problem) (met : List ℕ) (place next : ℕ) → IsWalk s item p met place next → place < length (met_of s item)
walk_there s item p met place next h = omega (arith, h.there, ap length h.all_met)

pub walk_version : (s : Setting) (item : Relationship) (p : Problem) (met : List ℕ) (place next : ℕ) → IsWalk s item p met place next → get_or met place 0 < version_count p
walk_version s item p met place next h = rw h.all_met (met_there s item p h.owners place (walk_there s item p met place next h))

pub walk_package : (s : Setting) (item : Relationship) (p : Problem) (met : List ℕ) (place next q : ℕ) → IsWalk s item p met place next → q ≡ package_of p (get_or met place 0) → q ≡ owner_at s item place
walk_package s item p met place next q h e = e ∙ owner_is p s.versions h.owners (get_or met place 0) ∙ ap (λ m. get_or (owners_of s.versions) (get_or m place 0) 0) h.all_met

pub walk_rising : (s : Setting) (item : Relationship) (p : Problem) (met : List ℕ) (place next : ℕ) → IsWalk s item p met place next → is_rising met ≡ true
walk_rising s item p met place next h = rw h.all_met (numbers_rise (meets s.native item) s.versions)

pub walk_before : (s : Setting) (item : Relationship) (p : Problem) (met : List ℕ) (place next q : ℕ) → IsWalk s item p met place next → IsWellFormed p → q ≡ package_of p (get_or met place 0) → next ≤ q
    → (k : ℕ) → k < place → get_or met k 0 < absent_of p q
walk_before s item p met place next q h w e le k lt =
    let own = walk_package s item p met place next q h e in
    rw (h.all_met, own) (met_earlier s item p w h.owners place next (walk_there s item p met place next h) (omega (arith, own)) h.passed k lt)

pub walk_after : (s : Setting) (item : Relationship) (p : Problem) (met : List ℕ) (place next q : ℕ) → IsWalk s item p met place next → IsWellFormed p → q ≡ package_of p (get_or met place 0)
    → absent_of p q ≤ get_or met place 0
walk_after s item p met place next q h w e =
    rw (h.all_met, walk_package s item p met place next q h e) (met_from s item p w h.owners place (walk_there s item p met place next h))

-- what is listed of the package, and of those behind it
package_is : (s : Setting) (item : Relationship) (p : Problem) (extent : Extent) (met : List ℕ) (q : ℕ) → IsWellFormed p → p.owners ≡ owners_of s.versions → met ≡ met_of s item
    → left_by s item extent q ≡ package_left p extent met q
package_is s item p extent met q w owners all_met =
    ap (λ vs. let left : Left = record { owner = q; versions = cond (lists extent q) vs [] } in left)
    (sym (left_unmet s item p w owners q) ∙ ap (λ ms. left_of p ms q) (sym all_met))

pub walk_next : (s : Setting) (item : Relationship) (p : Problem) (extent : Extent) (met : List ℕ) (place next q : ℕ) → IsWalk s item p met place next → IsWellFormed p → q ≡ package_of p (get_or met place 0) → next ≤ q
    → map (left_by s item extent) (packages_from s item next) ≡ package_left p extent met q ∷ map (left_by s item extent) (packages_from s item (q + 1))
walk_next s item p extent met place next q h w e le =
    let at = walk_package s item p met place next q h e in
    let split : packages_from s item next ≡ q ∷ packages_from s item (q + 1) =
    rw at (packages_next s item p w h.owners h.starts place next (walk_there s item p met place next h) (omega (arith, at)) h.passed) in
    ap (map (left_by s item extent)) split ∙ ap (λ left. left ∷ map (left_by s item extent) (packages_from s item (q + 1))) (package_is s item p extent met q w h.owners h.all_met)

pub walk_passed : (s : Setting) (item : Relationship) (p : Problem) (met : List ℕ) (place next q after : ℕ) → IsWalk s item p met place next → q ≡ package_of p (get_or met place 0) → next ≤ after → q < after
    → (k : ℕ) → k < place + 1 → owner_at s item k < after
walk_passed s item p met place next q after h e le lt k less =
    let own = walk_package s item p met place next q h e in
    elim (eq-or-lt_of_le {n = k} {m = place} (omega arith)) as (λ _. owner_at s item k < after) [
      | inl same ↦ rw same (omega (arith, own))
      | inr before ↦ omega (arith, h.passed k before)
    ]
