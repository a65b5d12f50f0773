-- Where the dependencies stand that are open at a set: what was broken at the start, and what the choices of the set can
-- open.
use Rattle.std.proofs.Common.{inl, inr, ◌≡◌, ◌⊎◌, ◌<◌, ℕ, List, [], ◌∷◌, Bool, true, false, not, cond, ◌&&◌, ◌||◌, Some, None, refl, ap, sym, ◌∙◌, nat_lt, nat_eq, arith}
use Rattle.std.specs.List.{find, flat_map, list_all, list_any}
use Rattle.std.specs.Option.{unwrap_or}
use Rattle.std.proofs.lemmas.Bool.{and_from, and_parts, or_left, or_right, eq-eqb, eqb-true, ltb-true, not-true, not-false, false_from_ne_true}
use Rattle.lists.proofs.Below.{has-below_from}
use Rattle.lists.proofs.Sets.{list_all-has, has-append, has-filter_from, list_any-has, list_any-has_none}
use Rattle.lists.proofs.Tests.{list_all-join}
use Rattle.lists.proofs.With.{find-with, has-with_old}
use Rattle.lists.specs.Below.{below}
use Rattle.lists.specs.Sets.{has, with}
use Rattle.resolver_model.specs.Problems.{Problem, IsWellFormed, version_count, package_count, dependency_count, dependency, package_of, start_of, installs_of, state, is_in_state, is_broken, is_open, leave_of}
use Rattle.problem.specs.Touching.{deps_of, deps_on, broken_at_start}
use Rattle.problem.proofs.Indexes.{filter_range}
use Rattle.broken_deps.specs.Opening.{open_deps, nearby, opened_by, candidates, candidates_after, concerns, stays_open}
use Rattle.broken_deps.proofs.Untouched.{open_other}

-- what is true and false at once
clash : {A : Type 0} → (b : Bool) → b ≡ true → b ≡ false → A
clash b t f = let e : true ≡ false = sym t ∙ f in absurd (cc)

-- Where a search ends: at nothing, or at a member that passes.
pub record FoundAt (f : ℕ → Bool) (xs : List ℕ) (x : ℕ) : Type 0 where
  pub is : find f xs ≡ Some x
  pub member : has xs x ≡ true
  pub passes : f x ≡ true

found_cases : (f : ℕ → Bool) (xs : List ℕ) → (find f xs ≡ None) ⊎ ((x : ℕ) × FoundAt f xs x)
found_cases f [] = inl refl
found_cases f (x ∷ xs) =
    elim (f x) as (λ b. f x ≡ b → (find f (x ∷ xs) ≡ None) ⊎ ((y : ℕ) × FoundAt f (x ∷ xs) y)) [
      | true ↦ λ e. inr (x, record { is = ap (λ b. cond b (Some x) (find f xs)) e; member = or_left (nat_eq x x) _ (eq-eqb x x refl); passes = e })
      | false ↦ λ e.
          let skip : find f (x ∷ xs) ≡ find f xs = ap (λ b. cond b (Some x) (find f xs)) e in
          elim (found_cases f xs) as (λ _. (find f (x ∷ xs) ≡ None) ⊎ ((y : ℕ) × FoundAt f (x ∷ xs) y)) [
            | inl none ↦ inl (skip ∙ none)
            | inr found ↦ inr (found.0, record { is = skip ∙ found.1.is; member = or_right (nat_eq x found.0) _ found.1.member; passes = found.1.passes })
          ]
    ] refl

-- With one more member the search ends as before, or at that one.
find-with_cases : (f : ℕ → Bool) (xs : List ℕ) (c : ℕ) → f c ≡ true → (find f (with xs c) ≡ find f xs) ⊎ (find f (with xs c) ≡ Some c)
find-with_cases f [] c h = inr (ap (λ b. cond b (Some c) None) h)
find-with_cases f (x ∷ xs) c h =
    elim (nat_lt x c) as (λ r. (find f (cond r (x ∷ with xs c) (cond (nat_eq x c) (x ∷ xs) (c ∷ x ∷ xs))) ≡ find f (x ∷ xs)) ⊎ (find f (cond r (x ∷ with xs c) (cond (nat_eq x c) (x ∷ xs) (c ∷ x ∷ xs))) ≡ Some c)) [
      | true ↦ elim (f x) as (λ b. (cond b (Some x) (find f (with xs c)) ≡ cond b (Some x) (find f xs)) ⊎ (cond b (Some x) (find f (with xs c)) ≡ Some c)) [ true ↦ inl refl | false ↦ find-with_cases f xs c h ]
      | false ↦ elim (nat_eq x c) as (λ r. (find f (cond r (x ∷ xs) (c ∷ x ∷ xs)) ≡ find f (x ∷ xs)) ⊎ (find f (cond r (x ∷ xs) (c ∷ x ∷ xs)) ≡ Some c)) [
        | true ↦ inl refl
        | false ↦ inr (ap (λ b. cond b (Some c) (find f (x ∷ xs))) h)
      ]
    ]

-- A package's version under a set with one more choice is as before, or the choice is its install.
state_cases : (p : Problem) (set : List ℕ) (c q : ℕ) → (state p (with set c) q ≡ state p set q) ⊎ ((installs_of p q c ≡ true) × (state p (with set c) q ≡ c))
state_cases p set c q =
    elim (installs_of p q c) as (λ b. installs_of p q c ≡ b → (state p (with set c) q ≡ state p set q) ⊎ ((installs_of p q c ≡ true) × (state p (with set c) q ≡ c))) [
      | false ↦ λ e. inl (ap (λ o. unwrap_or o (start_of p q)) (find-with (installs_of p q) set c e))
      | true ↦ λ e. elim (find-with_cases (installs_of p q) set c e) as (λ _. (state p (with set c) q ≡ state p set q) ⊎ ((installs_of p q c ≡ true) × (state p (with set c) q ≡ c))) [
        | inl same ↦ inl (ap (λ o. unwrap_or o (start_of p q)) same)
        | inr own ↦ inr (e, ap (λ o. unwrap_or o (start_of p q)) own)
      ]
    ] refl

own_package : (p : Problem) (q c : ℕ) → installs_of p q c ≡ true → package_of p c ≡ q
own_package p q c h = eqb-true (package_of p c) q (and_parts (nat_lt c (version_count p)) _ h).1

is_version : (p : Problem) (q c : ℕ) → installs_of p q c ≡ true → nat_lt c (version_count p) ≡ true
is_version p q c h = (and_parts (nat_lt c (version_count p)) _ h).0

-- The parts of being broken.
pub record IsUnmet (p : Problem) (set : List ℕ) (d : ℕ) : Type 0 where
  pub there : is_in_state p set (dependency p d).source ≡ true
  pub none : list_any (is_in_state p set) (dependency p d).targets ≡ false

unmet_parts : (p : Problem) (set : List ℕ) (d : ℕ) → is_broken p set d ≡ true → IsUnmet p set d
unmet_parts p set d h =
    let parts = and_parts (is_in_state p set (dependency p d).source) _ h in
    record { there = parts.0; none = not-true _ parts.1 }

-- A dependency that is not broken has no source there, or a target there.
met_cases : (p : Problem) (set : List ℕ) (d : ℕ) → is_broken p set d ≡ false → (is_in_state p set (dependency p d).source ≡ false) ⊎ (list_any (is_in_state p set) (dependency p d).targets ≡ true)
met_cases p set d h =
    elim (is_in_state p set (dependency p d).source) as (λ b. is_in_state p set (dependency p d).source ≡ b → (is_in_state p set (dependency p d).source ≡ false) ⊎ (list_any (is_in_state p set) (dependency p d).targets ≡ true)) [
      | false ↦ λ e. inl e
      | true ↦ λ e. inr (not-false _ (sym (ap (λ b. b && not (list_any (is_in_state p set) (dependency p d).targets)) e) ∙ h))
    ] refl

in_deps_of : (p : Problem) (v d : ℕ) → d < dependency_count p → (dependency p d).source ≡ v → has (deps_of p v) d ≡ true
in_deps_of p v d lt e = has-filter_from (λ k. nat_eq (dependency p k).source v) (below (dependency_count p)) d (eq-eqb _ v e) (has-below_from (dependency_count p) d lt)

in_deps_on : (p : Problem) (v t d : ℕ) → d < dependency_count p → has (dependency p d).targets t ≡ true → t ≡ v → has (deps_on p v) d ≡ true
in_deps_on p v t d lt m e = has-filter_from (λ k. has (dependency p k).targets v) (below (dependency_count p)) d (ap (has (dependency p d).targets) (sym e) ∙ m) (has-below_from (dependency_count p) d lt)

nearby_of : (p : Problem) (c before d : ℕ) → has (deps_of p c) d ≡ true → has (nearby p c before) d ≡ true
nearby_of p c before d h = has-append (deps_of p c) (deps_on p before) d ∙ or_left (has (deps_of p c) d) _ h

nearby_on : (p : Problem) (c before d : ℕ) → has (deps_on p before) d ≡ true → has (nearby p c before) d ≡ true
nearby_on p c before d h = has-append (deps_of p c) (deps_on p before) d ∙ or_right (has (deps_of p c) d) _ h

-- The choice of a set that can open a dependency.
pub record OpenedBy (p : Problem) (set : List ℕ) (d c : ℕ) : Type 0 where
  pub member : has set c ≡ true
  pub version : nat_lt c (version_count p) ≡ true
  pub near : has (nearby p c (start_of p (package_of p c))) d ≡ true

source_arrived : (p : Problem) (set : List ℕ) (d : ℕ) → d < dependency_count p → is_in_state p set (dependency p d).source ≡ true → is_in_state p [] (dependency p d).source ≡ false → (c : ℕ) × OpenedBy p set d c
source_arrived p set d lt now before =
    let source = (dependency p d).source in
    let q = package_of p source in
    elim (found_cases (installs_of p q) set) as (λ _. (c : ℕ) × OpenedBy p set d c) [
      | inl none ↦
          let same : is_in_state p set source ≡ is_in_state p [] source = ap (λ o. nat_eq (unwrap_or o (start_of p q)) source) none in
          clash (is_in_state p set source) now (same ∙ before)
      | inr found ↦
          let at : state p set q ≡ found.0 = ap (λ o. unwrap_or o (start_of p q)) found.1.is in
          let own : source ≡ found.0 = sym (eqb-true (state p set q) source now) ∙ at in
          (found.0, record { member = found.1.member; version = is_version p q found.0 found.1.passes; near = nearby_of p found.0 (start_of p (package_of p found.0)) d (in_deps_of p found.0 d lt own) })
    ]

target_left : (p : Problem) (set : List ℕ) (d : ℕ) → d < dependency_count p → list_any (is_in_state p set) (dependency p d).targets ≡ false → list_any (is_in_state p []) (dependency p d).targets ≡ true
    → (c : ℕ) × OpenedBy p set d c
target_left p set d lt now before =
    let target = list_any-has (is_in_state p []) (dependency p d).targets before in
    let t : ℕ = target.0 in
    let gone : is_in_state p set t ≡ false = list_any-has_none (is_in_state p set) (dependency p d).targets t now target.1 in
    let q = package_of p t in
    elim (found_cases (installs_of p q) set) as (λ _. (c : ℕ) × OpenedBy p set d c) [
      | inl none ↦
          let same : is_in_state p set t ≡ is_in_state p [] t = ap (λ o. nat_eq (unwrap_or o (start_of p q)) t) none in
          clash (is_in_state p [] t) target.2 (sym same ∙ gone)
      | inr found ↦
          let started : start_of p q ≡ t = eqb-true (start_of p q) t target.2 in
          let own : t ≡ start_of p (package_of p found.0) = sym started ∙ ap (start_of p) (sym (own_package p q found.0 found.1.passes)) in
          (found.0, record { member = found.1.member; version = is_version p q found.0 found.1.passes; near = nearby_on p found.0 (start_of p (package_of p found.0)) d (in_deps_on p (start_of p (package_of p found.0)) t d lt target.1 own) })
    ]

opened_from_start : (p : Problem) (set : List ℕ) (d : ℕ) → d < dependency_count p → is_broken p set d ≡ true → is_broken p [] d ≡ false → (c : ℕ) × OpenedBy p set d c
opened_from_start p set d lt now before =
    let parts = unmet_parts p set d now in
    elim (met_cases p [] d before) as (λ _. (c : ℕ) × OpenedBy p set d c) [ inl away ↦ source_arrived p set d lt parts.there away | inr met ↦ target_left p set d lt parts.none met ]

has-flat_map : (f : ℕ → List ℕ) (xs : List ℕ) (c d : ℕ) → has xs c ≡ true → has (f c) d ≡ true → has (flat_map f xs) d ≡ true
has-flat_map f [] c d m h = clash true refl (sym m)
has-flat_map f (x ∷ xs) c d m h =
    has-append (f x) (flat_map f xs) d
    ∙ (elim (nat_eq x c) as (λ b. nat_eq x c ≡ b → (has (f x) d || has (flat_map f xs) d) ≡ true) [
      | true ↦ λ e. or_left (has (f x) d) _ (ap (λ y. has (f y) d) (eqb-true x c e) ∙ h)
      | false ↦ λ e. or_right (has (f x) d) _ (has-flat_map f xs c d (sym (ap (λ b. b || has xs c) e) ∙ m) h)
    ] refl)

-- Each dependency that is open at a set is among the candidates.
pub open_found : (p : Problem) (set : List ℕ) (d : ℕ) → is_open p set d ≡ true → d < dependency_count p → has (candidates p set) d ≡ true
open_found p set d h lt =
    let now : is_broken p set d ≡ true = (and_parts (is_broken p set d) _ h).0 in
    has-append (broken_at_start p) (flat_map (opened_by p) set) d
    ∙ (elim (is_broken p [] d) as (λ b. is_broken p [] d ≡ b → (has (broken_at_start p) d || has (flat_map (opened_by p) set) d) ≡ true) [
      | true ↦ λ e. or_left (has (broken_at_start p) d) _ (has-filter_from (is_broken p []) (below (dependency_count p)) d e (has-below_from (dependency_count p) d lt))
      | false ↦ λ e.
          let by = opened_from_start p set d lt now e in
          let own : has (opened_by p by.0) d ≡ true = ap (λ b. has (cond b (nearby p by.0 (start_of p (package_of p by.0))) []) d) by.1.version ∙ by.1.near in
          or_right (has (broken_at_start p) d) _ (has-flat_map (opened_by p) set by.0 d by.1.member own)
    ] refl)

-- The same after one choice.

not_left : (p : Problem) (set : List ℕ) (c d : ℕ) → is_open p (with set c) d ≡ true → ((dependency p d).soft && has set (leave_of p d)) ≡ false
not_left p set c d h =
    false_from_ne_true _ (λ t.
    let both = and_parts (dependency p d).soft (has set (leave_of p d)) t in
    let more : ((dependency p d).soft && has (with set c) (leave_of p d)) ≡ true = and_from (dependency p d).soft _ both.0 (has-with_old set c (leave_of p d) both.1) in
    let less : ((dependency p d).soft && has (with set c) (leave_of p d)) ≡ false = not-true _ (and_parts (is_broken p (with set c) d) _ h).1 in
    clash _ more less)

-- what is open after a choice and was not before was not broken
met_before : (p : Problem) (set : List ℕ) (c d : ℕ) → is_open p (with set c) d ≡ true → is_open p set d ≡ false → is_broken p set d ≡ false
met_before p set c d h before =
    false_from_ne_true _ (λ t.
    let open_before : is_open p set d ≡ true = and_from (is_broken p set d) _ t (ap not (not_left p set c d h)) in
    clash _ open_before before)

arrived_after : (p : Problem) (set : List ℕ) (c d : ℕ) → d < dependency_count p → is_in_state p (with set c) (dependency p d).source ≡ true → is_in_state p set (dependency p d).source ≡ false
    → has (nearby p c (state p set (package_of p c))) d ≡ true
arrived_after p set c d lt now before =
    let source = (dependency p d).source in
    let q = package_of p source in
    elim (state_cases p set c q) as (λ _. has (nearby p c (state p set (package_of p c))) d ≡ true) [
      | inl same ↦ clash (is_in_state p (with set c) source) now (ap (λ v. nat_eq v source) same ∙ before)
      | inr own ↦
          let at : source ≡ c = sym (eqb-true (state p (with set c) q) source now) ∙ own.1 in
          nearby_of p c (state p set (package_of p c)) d (in_deps_of p c d lt at)
    ]

gone_after : (p : Problem) (set : List ℕ) (c d : ℕ) → d < dependency_count p → list_any (is_in_state p (with set c)) (dependency p d).targets ≡ false → list_any (is_in_state p set) (dependency p d).targets ≡ true
    → has (nearby p c (state p set (package_of p c))) d ≡ true
gone_after p set c d lt now before =
    let target = list_any-has (is_in_state p set) (dependency p d).targets before in
    let t : ℕ = target.0 in
    let gone : is_in_state p (with set c) t ≡ false = list_any-has_none (is_in_state p (with set c)) (dependency p d).targets t now target.1 in
    let q = package_of p t in
    elim (state_cases p set c q) as (λ _. has (nearby p c (state p set (package_of p c))) d ≡ true) [
      | inl same ↦ clash (is_in_state p set t) target.2 (sym (ap (λ v. nat_eq v t) same) ∙ gone)
      | inr own ↦
          let stood : state p set q ≡ t = eqb-true (state p set q) t target.2 in
          let at : t ≡ state p set (package_of p c) = sym stood ∙ ap (state p set) (sym (own_package p q c own.0)) in
          nearby_on p c (state p set (package_of p c)) d (in_deps_on p (state p set (package_of p c)) t d lt target.1 at)
    ]

opened_after : (p : Problem) (set : List ℕ) (c d : ℕ) → d < dependency_count p → is_broken p (with set c) d ≡ true → is_broken p set d ≡ false → has (nearby p c (state p set (package_of p c))) d ≡ true
opened_after p set c d lt now before =
    let parts = unmet_parts p (with set c) d now in
    elim (met_cases p set d before) as (λ _. has (nearby p c (state p set (package_of p c))) d ≡ true) [ inl away ↦ arrived_after p set c d lt parts.there away | inr met ↦ gone_after p set c d lt parts.none met ]

-- A choice that is no version opens nothing.
none_opened : (p : Problem) (set : List ℕ) (c d : ℕ) → nat_lt c (version_count p) ≡ false → is_broken p (with set c) d ≡ true → is_broken p set d ≡ true
none_opened p set c d out now =
    elim (is_broken p set d) as (λ b. is_broken p set d ≡ b → is_broken p set d ≡ true) [
      | true ↦ λ e. e
      | false ↦ λ e. absurd (contradiction e)
    ] refl
  where
    same : (q : ℕ) → state p (with set c) q ≡ state p set q
    same q =
        let none : installs_of p q c ≡ false = ap (λ b. b && nat_eq (package_of p c) q) out in
        ap (λ o. unwrap_or o (start_of p q)) (find-with (installs_of p q) set c none)

    contradiction : is_broken p set d ≡ false → ⊥
    contradiction e =
        let parts = unmet_parts p (with set c) d now in
        elim (met_cases p set d e) as (λ _. ⊥) [
          | inl away ↦ clash (is_in_state p (with set c) (dependency p d).source) parts.there (ap (λ v. nat_eq v (dependency p d).source) (same (package_of p (dependency p d).source)) ∙ away)
          | inr met ↦
              let target = list_any-has (is_in_state p set) (dependency p d).targets met in
              let gone : is_in_state p (with set c) target.0 ≡ false = list_any-has_none (is_in_state p (with set c)) (dependency p d).targets target.0 parts.none target.1 in
              clash (is_in_state p set target.0) target.2 (sym (ap (λ v. nat_eq v target.0) (same (package_of p target.0))) ∙ gone)
        ]

-- Each dependency that is open at the set with one more choice is among the candidates.
pub open_found_after : (p : Problem) (set : List ℕ) (c d : ℕ) → is_open p (with set c) d ≡ true → d < dependency_count p → has (candidates_after p set c) d ≡ true
open_found_after p set c d h lt =
    let now : is_broken p (with set c) d ≡ true = (and_parts (is_broken p (with set c) d) _ h).0 in
    let near = nearby p c (state p set (package_of p c)) in
    has-append (open_deps p set) (cond (nat_lt c (version_count p)) near []) d
    ∙ (elim (is_open p set d) as (λ b. is_open p set d ≡ b → (has (open_deps p set) d || has (cond (nat_lt c (version_count p)) near []) d) ≡ true) [
      | true ↦ λ e. or_left (has (open_deps p set) d) _ (has-filter_from (is_open p set) (below (dependency_count p)) d e (has-below_from (dependency_count p) d lt))
      | false ↦ λ e.
          elim (nat_lt c (version_count p)) as (λ r. nat_lt c (version_count p) ≡ r → (has (open_deps p set) d || has (cond r near []) d) ≡ true) [
            | true ↦ λ _. or_right (has (open_deps p set) d) _ (opened_after p set c d lt now (met_before p set c d h e))
            | false ↦ λ out. clash (is_broken p set d) (none_opened p set c d out now) (met_before p set c d h e)
          ] refl
    ] refl)

-- Of what was open, a dependency that the choice has nothing to do with stays so.
pub stays_same : (p : Problem) (set : List ℕ) (c d : ℕ) → is_open p set d ≡ true → stays_open p (with set c) c d ≡ is_open p (with set c) d
stays_same p set c d h =
    elim (concerns p c d) as (λ b. concerns p c d ≡ b → (not b || is_open p (with set c) d) ≡ is_open p (with set c) d) [
      | true ↦ λ _. refl
      | false ↦ λ e. sym (open_other p set c d e ∙ h)
    ] refl

-- a package's version under a set is one of the problem
pub state_range : (p : Problem) → IsWellFormed p → (set : List ℕ) (q : ℕ) → q < package_count p → state p set q < version_count p
state_range p w set q lt =
    elim (found_cases (installs_of p q) set) as (λ _. state p set q < version_count p) [
      | inl none ↦ let at : state p set q ≡ start_of p q = ap (λ o. unwrap_or o (start_of p q)) none in omega (arith, at, (w.starts q lt).0)
      | inr found ↦
          let at : state p set q ≡ found.0 = ap (λ o. unwrap_or o (start_of p q)) found.1.is in
          omega (arith, at, ltb-true found.0 (version_count p) (is_version p q found.0 found.1.passes))
    ]

-- the candidates are dependencies of the problem
in_range : (n : ℕ) (xs : List ℕ) (d : ℕ) → list_all (λ x. nat_lt x n) xs ≡ true → has xs d ≡ true → d < n
in_range n xs d h m = ltb-true d n (list_all-has (λ x. nat_lt x n) xs d h m)

nearby_range : (p : Problem) (c before : ℕ) → list_all (λ x. nat_lt x (dependency_count p)) (nearby p c before) ≡ true
nearby_range p c before =
    list_all-join (λ x. nat_lt x (dependency_count p)) (deps_of p c) (deps_on p before)
    (filter_range (λ k. nat_eq (dependency p k).source c) (dependency_count p)) (filter_range (λ k. has (dependency p k).targets before) (dependency_count p))

opened_range : (p : Problem) (set : List ℕ) → list_all (λ x. nat_lt x (dependency_count p)) (flat_map (opened_by p) set) ≡ true
opened_range p [] = refl
opened_range p (c ∷ set) = list_all-join (λ x. nat_lt x (dependency_count p)) (opened_by p c) (flat_map (opened_by p) set) one (opened_range p set)
  where
    one : list_all (λ x. nat_lt x (dependency_count p)) (opened_by p c) ≡ true
    one = elim (nat_lt c (version_count p)) as (λ b. list_all (λ x. nat_lt x (dependency_count p)) (cond b (nearby p c (start_of p (package_of p c))) []) ≡ true) [ true ↦ nearby_range p c (start_of p (package_of p c)) | false ↦ refl ]

pub open_range : (p : Problem) (set : List ℕ) → list_all (λ x. nat_lt x (dependency_count p)) (open_deps p set) ≡ true
open_range p set = filter_range (is_open p set) (dependency_count p)

pub candidates_range : (p : Problem) (set : List ℕ) (d : ℕ) → has (candidates p set) d ≡ true → d < dependency_count p
candidates_range p set d =
    in_range (dependency_count p) (candidates p set) d
    (list_all-join (λ x. nat_lt x (dependency_count p)) (broken_at_start p) (flat_map (opened_by p) set) (filter_range (is_broken p []) (dependency_count p)) (opened_range p set))

pub candidates_after_range : (p : Problem) (set : List ℕ) (c d : ℕ) → has (candidates_after p set c) d ≡ true → d < dependency_count p
candidates_after_range p set c d =
    in_range (dependency_count p) (candidates_after p set c) d
    (list_all-join (λ x. nat_lt x (dependency_count p)) (open_deps p set) (cond (nat_lt c (version_count p)) (nearby p c (state p set (package_of p c))) []) (open_range p set) rest)
  where
    rest : list_all (λ x. nat_lt x (dependency_count p)) (cond (nat_lt c (version_count p)) (nearby p c (state p set (package_of p c))) []) ≡ true
    rest = elim (nat_lt c (version_count p)) as (λ b. list_all (λ x. nat_lt x (dependency_count p)) (cond b (nearby p c (state p set (package_of p c))) []) ≡ true) [ true ↦ nearby_range p c (state p set (package_of p c)) | false ↦ refl ]
