-- What is known of each resolver of an open dependency, and of the taken list with it.
use Rattle.std.proofs.Common.{inl, inr, ◌≡◌, ◌⊎◌, ◌<◌, ℕ, ◌+◌, ◌-◌, List, [], ◌∷◌, Bool, true, false, cond, not, ◌&&◌, ◌||◌, refl, ap, sym, ◌∙◌, arith, nat_lt, nat_eq, nat_le, eq-eqb, eqb-true, lt-ltb, ltb-true, le-leb}
use Rattle.std.proofs.lemmas.Bool.{and_from, and_parts, or_cases, or_left, or_right, or_parts, not-true, not_from_false, false_from_ne_true, and_left, and_right}
use Rattle.std.proofs.Math.Bool.{and-false}
use Rattle.lists.proofs.Truth.{nat_eq-same}
use Rattle.lists.specs.Sets.{has, with}
use Rattle.resolver_model.specs.Problems.{Problem, dependency, leave_of, package_of, version_count, dependency_count, installs_of, changes, is_install, is_leave, is_choice, is_consistent, is_broken, is_open, is_install_resolver, is_leave_resolver, is_resolver}
use Rattle.resolver_model.proofs.Splits.{changes_has}

-- the choice installs no version of a package that the set changes
abbrev pub is_free : Problem → List ℕ → ℕ → Bool
is_free p set c = not (nat_lt c (version_count p) && changes p set (package_of p c))

-- a resolver is a choice that the taken list has not and that fits it
pub record IsFitting (p : Problem) (taken : List ℕ) (r : ℕ) : Type 0 where
  pub choice : is_choice p r ≡ true
  pub missing : has taken r ≡ false
  pub free : is_free p taken r ≡ true

pub IsFitting-resolver : (p : Problem) (taken : List ℕ) (d r : ℕ) → d < dependency_count p → is_open p taken d ≡ true → is_resolver p taken d r ≡ true → IsFitting p taken r
IsFitting-resolver p taken d r lt open_here h =
    elim (or_cases (is_install_resolver p taken d r) (is_leave_resolver p d r) h) as (λ _. IsFitting p taken r) [
      | inl install ↦
          let outer = and_parts (is_install p r && not (changes p taken (package_of p r))) _ install in
          let inner = and_parts (is_install p r) (not (changes p taken (package_of p r))) outer.0 in
          let low = and_parts (nat_lt r (version_count p)) _ inner.0 in
          let still : changes p taken (package_of p r) ≡ false = not-true _ inner.1 in
          let own : installs_of p (package_of p r) r ≡ true = and_from (nat_lt r (version_count p)) _ low.0 (nat_eq-same (package_of p r)) in
          record {
            choice = or_left (is_install p r) _ inner.0;
            missing = false_from_ne_true _ (λ m. let yes_changed = changes_has p (package_of p r) taken r own m in let f : true ≡ false = sym yes_changed ∙ still in cc);
            free = not_from_false _ (and_right (nat_lt r (version_count p)) _ still);
          }
      | inr leave ↦
          let both = and_parts (dependency p d).soft _ leave in
          let e : r ≡ leave_of p d = eqb-true r (leave_of p d) both.1 in
          let opened = and_parts (is_broken p taken d) _ open_here in
          let not_left : ((dependency p d).soft && has taken (leave_of p d)) ≡ false = not-true _ opened.1 in
          let gone : has taken (leave_of p d) ≡ false = missing_one (dependency p d).soft _ both.0 not_left in
          let high : nat_lt r (version_count p) ≡ false = false_from_ne_true _ (λ t. let low : r < version_count p = ltb-true r (version_count p) t in absurd (omega (arith, e, low))) in
          record {
            choice = or_right (is_install p r) _ (leave_choice p d r lt e both.0);
            missing = ap (has taken) e ∙ gone;
            free = not_from_false _ (and_left (nat_lt r (version_count p)) _ high);
          }
    ]
  where
    missing_one : (a b : Bool) → a ≡ true → (a && b) ≡ false → b ≡ false
    missing_one true b h k = k
    missing_one false b h k = absurd (cc)

    leave_choice : (p : Problem) (d r : ℕ) → d < dependency_count p → r ≡ leave_of p d → (dependency p d).soft ≡ true → is_leave p r ≡ true
    leave_choice p d r lt e soft =
        let back : r - version_count p ≡ d = omega (arith, e) in
        and_from (nat_le (version_count p) r && nat_lt r (version_count p + dependency_count p)) _
        (and_from (nat_le (version_count p) r) _ (le-leb _ _ (omega (arith, e))) (lt-ltb _ _ (omega (arith, e, lt))))
        (ap (λ n. (dependency p n).soft) back ∙ soft)

-- what changes a package in a set with one more
changes-with_cases : (p : Problem) (q c : ℕ) (set : List ℕ) → changes p (with set c) q ≡ true → (installs_of p q c ≡ true) ⊎ (changes p set q ≡ true)
changes-with_cases p q c [] h = elim (or_cases (installs_of p q c) false h) as (λ _. (installs_of p q c ≡ true) ⊎ (changes p [] q ≡ true)) [ inl e ↦ inl e | inr no_one ↦ absurd (cc) ]
changes-with_cases p q c (x ∷ set) h =
    elim (nat_lt x c) as (λ r. changes p (cond r (x ∷ with set c) (cond (nat_eq x c) (x ∷ set) (c ∷ x ∷ set))) q ≡ true → (installs_of p q c ≡ true) ⊎ (changes p (x ∷ set) q ≡ true)) [
      | true ↦ λ t.
          elim (or_cases (installs_of p q x) (changes p (with set c) q) t) as (λ _. (installs_of p q c ≡ true) ⊎ (changes p (x ∷ set) q ≡ true)) [
            | inl here ↦ inr (or_left (installs_of p q x) _ here)
            | inr there ↦ elim (changes-with_cases p q c set there) as (λ _. (installs_of p q c ≡ true) ⊎ (changes p (x ∷ set) q ≡ true)) [ inl e ↦ inl e | inr k ↦ inr (or_right (installs_of p q x) _ k) ]
          ]
      | false ↦ λ t.
          elim (nat_eq x c) as (λ r. changes p (cond r (x ∷ set) (c ∷ x ∷ set)) q ≡ true → (installs_of p q c ≡ true) ⊎ (changes p (x ∷ set) q ≡ true)) [
            | true ↦ λ u. inr u
            | false ↦ λ u. or_cases (installs_of p q c) (changes p (x ∷ set) q) u
          ] t
    ] h

-- the taken list stays consistent with a choice that fits
pub is_consistent-with : (p : Problem) (set : List ℕ) (c : ℕ) → is_consistent p set ≡ true → is_free p set c ≡ true → is_consistent p (with set c) ≡ true
is_consistent-with p [] c k free = and_from (not (nat_lt c (version_count p) && false)) true (not_from_false _ (and-false (nat_lt c (version_count p)))) refl
is_consistent-with p (x ∷ set) c k free =
    let parts = and_parts (is_free p set x) (is_consistent p set) k in
    let blocked : (nat_lt c (version_count p) && (installs_of p (package_of p c) x || changes p set (package_of p c))) ≡ false = not-true _ free in
    elim (nat_lt x c) as (λ r. is_consistent p (cond r (x ∷ with set c) (cond (nat_eq x c) (x ∷ set) (c ∷ x ∷ set))) ≡ true) [
      | true ↦
          let rest : is_free p set c ≡ true = not_from_false _ (smaller (nat_lt c (version_count p)) (installs_of p (package_of p c) x) (changes p set (package_of p c)) blocked) in
          let head : (nat_lt x (version_count p) && changes p (with set c) (package_of p x)) ≡ false =
          false_from_ne_true _ (λ t.
          let two = and_parts (nat_lt x (version_count p)) _ t in
          elim (changes-with_cases p (package_of p x) c set two.1) as (λ _. ⊥) [
            | inl own ↦
                let at = and_parts (nat_lt c (version_count p)) _ own in
                let e : package_of p c ≡ package_of p x = eqb-true _ _ at.1 in
                let mine : installs_of p (package_of p c) x ≡ true = and_from (nat_lt x (version_count p)) _ two.0 (eq-eqb (package_of p x) (package_of p c) (sym e)) in
                let whole = and_from (nat_lt c (version_count p)) _ at.0 (or_left (installs_of p (package_of p c) x) (changes p set (package_of p c)) mine) in
                let f : true ≡ false = sym whole ∙ blocked in
                cc
            | inr more ↦
                let no_more : (nat_lt x (version_count p) && changes p set (package_of p x)) ≡ false = not-true _ parts.0 in
                let f : true ≡ false = sym (and_from (nat_lt x (version_count p)) _ two.0 more) ∙ no_more in
                cc
          ])
          in
          and_from (is_free p (with set c) x) _ (not_from_false _ head) (is_consistent-with p set c parts.1 rest)
      | false ↦ elim (nat_eq x c) as (λ r. is_consistent p (cond r (x ∷ set) (c ∷ x ∷ set)) ≡ true) [ true ↦ k | false ↦ and_from (is_free p (x ∷ set) c) _ free k ]
    ]
  where
    smaller : (a b c : Bool) → (a && (b || c)) ≡ false → (a && c) ≡ false
    smaller true b c h = (or_parts b c h).1
    smaller false b c h = refl
