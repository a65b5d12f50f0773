-- What a search through a set of choices finds.
use Rattle.std.proofs.Common.{◌≡◌, ℕ, suc, ◌<◌, ◌≤◌, min, List, [], ◌∷◌, length, get_or, Option, Some, None, Result, Ok, Err, is_ok, Bool, true, false, not, ◌&&◌, ◌⊎◌, cond, nat_lt, nat_eq, MatchOption, inl, inr, subst, refl, sym, arith}
use Rattle.std.specs.List.{find, list_any, list_all}
use Rattle.std.specs.Option.{option_map}
use Rattle.std.specs.List.Sorted.{IsBinarySearchResult}
use Rattle.std.specs.Ordering.{nat_cmp}
use Rattle.std.proofs.lemmas.List.Sorted.{searched}
use Rattle.std.proofs.lemmas.Bool.{and_from, and_parts, or_left, or_right, or_cases, or_from, eq-eqb, ne_eqb, eqb-true, ltb-true, cases_lt, false_from_ne_true, both_ways, and_right as and_right_false}
use Rattle.lists.proofs.Sets.{has_at, rising_upto}
use Rattle.lists.specs.Sets.{has, is_rising}
use Rattle.resolver_model.specs.Rules.{Rules, Cap, is_against, IsLeastAgainst, is_under, is_over, IsLeastOver}
use Rattle.user_rules.specs.CapOrder.{level_at, RisesByLevel}

has-nowhere : (xs : List ℕ) (c : ℕ) → ((i : ℕ) → i < length xs → get_or xs i 0 ≡ c → ⊥) → has xs c ≡ false
has-nowhere [] c never = refl
has-nowhere (x ∷ xs) c never = or_from (nat_eq x c) (has xs c) (ne_eqb x c (never 0 (omega arith))) (has-nowhere xs c (λ i lt. never (suc i) (omega arith)))

-- a binary search succeeds at the members
pub has-searched : (xs ys : List ℕ) (c : ℕ) (r : Result ℕ ℕ) → xs ≡ ys → is_rising ys ≡ true → IsBinarySearchResult (λ y. nat_cmp y c) xs r → is_ok r ≡ has ys c
has-searched xs ys c (Ok i) e h found =
    let rises : is_rising xs ≡ true = rw e h in
    let at = searched xs c (Ok i) found (rising_upto xs rises) in
    rw (sym e) (sym (has_at xs c i at.0 at.1))
has-searched xs ys c (Err i) e h found =
    let rises : is_rising xs ≡ true = rw e h in
    let at = searched xs c (Err i) found (rising_upto xs rises) in
    rw (sym e) (sym (has-nowhere xs c (λ k lt same. grind (arith, at.1 k, at.2 k))))

-- x is the first member that passes
pub record IsFirst (p : ℕ → Bool) (xs : List ℕ) (x : ℕ) : Type 0 where
  pub there : has xs x ≡ true
  pub passes : p x ≡ true
  pub least : (c : ℕ) → has xs c ≡ true → p c ≡ true → x ≤ c

abbrev pub IsNoneOf : (ℕ → Bool) → List ℕ → Type 0
IsNoneOf p xs = (c : ℕ) → has xs c ≡ true → p c ≡ true → ⊥

above : (x : ℕ) (xs : List ℕ) → list_all (λ y. nat_lt x y) xs ≡ true → (c : ℕ) → has xs c ≡ true → x < c
above x [] all c h = absurd (cc)
above x (y ∷ xs) all c h =
    let parts = and_parts (nat_lt x y) (list_all (λ z. nat_lt x z) xs) all in
    elim (or_cases (nat_eq y c) (has xs c) h) as (λ _. x < c) [
      | inl here ↦ omega (arith, eqb-true y c here, ltb-true x y parts.0)
      | inr later ↦ above x xs parts.1 c later
    ]

pub find-first : (p : ℕ → Bool) (xs : List ℕ) → is_rising xs ≡ true → MatchOption (find p xs) (IsNoneOf p xs) (IsFirst p xs)
find-first p [] rises = λ c h. absurd (cc)
find-first p (x ∷ xs) rises =
    let parts = and_parts (list_all (λ y. nat_lt x y) xs) (is_rising xs) rises in
    elim (p x) as (λ r. p x ≡ r → MatchOption (cond r (Some x) (find p xs)) (IsNoneOf p (x ∷ xs)) (IsFirst p (x ∷ xs))) [
      | true ↦ λ here. record {
        there = or_left (nat_eq x x) (has xs x) (eq-eqb x x refl);
        passes = here;
        least = λ c h _. elim (or_cases (nat_eq x c) (has xs c) h) as (λ _. x ≤ c) [ inl same ↦ omega (arith, eqb-true x c same) | inr later ↦ omega (arith, above x xs parts.0 c later) ];
      }
      | false ↦ λ here. later (find p xs) here (find-first p xs parts.1)
    ] refl
  where
    later : (o : Option ℕ) → p x ≡ false → MatchOption o (IsNoneOf p xs) (IsFirst p xs) → MatchOption o (IsNoneOf p (x ∷ xs)) (IsFirst p (x ∷ xs))
    later None here none = λ c h passes. elim (or_cases (nat_eq x c) (has xs c) h) as (λ _. ⊥) [ inl same ↦ both_ways (p c) (rw (eqb-true x c same) at here) passes | inr l ↦ none c l passes ]
    later (Some y) here first = record {
      there = or_right (nat_eq x y) (has xs y) first.there;
      passes = first.passes;
      least = λ c h passes. elim (or_cases (nat_eq x c) (has xs c) h) as (λ _. y ≤ c) [ inl same ↦ absurd (both_ways (p c) (rw (eqb-true x c same) at here) passes) | inr l ↦ first.least c l passes ];
    }

pub first_from : (p : ℕ → Bool) (xs : List ℕ) (x : ℕ) → is_rising xs ≡ true → Some x ≡ find p xs → IsFirst p xs x
first_from p xs x rises e = let P : Option ℕ → Type 0 = λ o. MatchOption o (IsNoneOf p xs) (IsFirst p xs) in subst P (sym e) (find-first p xs rises)

pub none_from : (p : ℕ → Bool) (xs : List ℕ) → is_rising xs ≡ true → None ≡ find p xs → IsNoneOf p xs
none_from p xs rises e = let P : Option ℕ → Type 0 = λ o. MatchOption o (IsNoneOf p xs) (IsFirst p xs) in subst P (sym e) (find-first p xs rises)

pub match_from : (p : ℕ → Bool) (xs : List ℕ) (r : Option ℕ) → is_rising xs ≡ true → r ≡ find p xs → MatchOption r (IsNoneOf p xs) (IsFirst p xs)
match_from p xs r rises e = let P : Option ℕ → Type 0 = λ o. MatchOption o (IsNoneOf p xs) (IsFirst p xs) in subst P (sym e) (find-first p xs rises)

-- The least choice against a set, from the first approved one outside it and the first rejected one inside.
module _ (rules : Rules) (set : List ℕ) where
  abbrev pub outside : ℕ → Bool
  outside c = not (has set c)

  -- each choice against the set is one of the two kinds
  kinds : (c : ℕ) → is_against rules set c ≡ true → ((has rules.rejected c ≡ true) × (has set c ≡ true)) ⊎ ((has rules.approved c ≡ true) × (outside c ≡ true))
  kinds c h = elim (or_cases (has rules.rejected c && has set c) (has rules.approved c && outside c) h) as (λ _. ((has rules.rejected c ≡ true) × (has set c ≡ true)) ⊎ ((has rules.approved c ≡ true) × (outside c ≡ true))) [
    | inl there ↦ inl (and_parts (has rules.rejected c) (has set c) there)
    | inr missing ↦ inr (and_parts (has rules.approved c) (outside c) missing)
  ]

  rejected_against : (c : ℕ) → IsFirst (has set) rules.rejected c → is_against rules set c ≡ true
  rejected_against c first = or_left (has rules.rejected c && has set c) _ (and_from (has rules.rejected c) (has set c) first.there first.passes)

  approved_against : (c : ℕ) → IsFirst outside rules.approved c → is_against rules set c ≡ true
  approved_against c first = or_right (has rules.rejected c && has set c) _ (and_from (has rules.approved c) (outside c) first.there first.passes)

  pub least_against-both : (x y : ℕ) → IsFirst outside rules.approved x → IsFirst (has set) rules.rejected y → IsLeastAgainst rules set (min x y)
  least_against-both x y missing there = record {
    against = elim (cases_lt x y) as (λ _. is_against rules set (min x y) ≡ true) [
      | inl lt ↦ let e : min x y ≡ x = omega arith in rw e (approved_against x missing)
      | inr ge ↦ let e : min x y ≡ y = omega arith in rw e (rejected_against y there)
    ];
    least = λ c h. elim (kinds c h) as (λ _. min x y ≤ c) [
      | inl r ↦ omega (arith, there.least c r.0 r.1)
      | inr a ↦ omega (arith, missing.least c a.0 a.1)
    ];
  }

  pub least_against-missing : (x : ℕ) → IsFirst outside rules.approved x → IsNoneOf (has set) rules.rejected → IsLeastAgainst rules set x
  least_against-missing x missing none = record {
    against = approved_against x missing;
    least = λ c h. elim (kinds c h) as (λ _. x ≤ c) [ inl r ↦ absurd (none c r.0 r.1) | inr a ↦ missing.least c a.0 a.1 ];
  }

  pub least_against-there : (r : Option ℕ) → IsNoneOf outside rules.approved → MatchOption r (IsNoneOf (has set) rules.rejected) (IsFirst (has set) rules.rejected)
      → MatchOption r ((c : ℕ) → is_against rules set c ≡ false) (IsLeastAgainst rules set)
  least_against-there None none_missing none_there = λ c. false_from_ne_true (is_against rules set c) (λ h. elim (kinds c h) as (λ _. ⊥) [ inl r ↦ none_there c r.0 r.1 | inr a ↦ none_missing c a.0 a.1 ])
  least_against-there (Some y) none_missing there = record {
    against = rejected_against y there;
    least = λ c h. elim (kinds c h) as (λ _. y ≤ c) [ inl r ↦ there.least c r.0 r.1 | inr a ↦ absurd (none_missing c a.0 a.1) ];
  }

-- The least level over its cap, from the first cap that a cost is over.
abbrev pub over_in : List ℕ → List Cap → ℕ → Bool
over_in parts caps level = list_any (λ c. nat_eq c.0 level && not (is_under parts c)) caps

pub record IsLeastOverIn (parts : List ℕ) (caps : List Cap) (level : ℕ) : Type 0 where
  pub over : over_in parts caps level ≡ true
  pub least : (other : ℕ) → over_in parts caps other ≡ true → level ≤ other

-- a level that is over is the level of a cap
over_at : (parts : List ℕ) (caps : List Cap) (level : ℕ) → over_in parts caps level ≡ true → (i : ℕ) × (i < length caps) × (level_at caps i ≡ level)
over_at parts [] level h = absurd (cc)
over_at parts (x ∷ caps) level h =
    elim (or_cases (nat_eq x.0 level && not (is_under parts x)) (over_in parts caps level) h) as (λ _. (i : ℕ) × (i < length (x ∷ caps)) × (level_at (x ∷ caps) i ≡ level)) [
      | inl here ↦ let both = and_parts (nat_eq x.0 level) (not (is_under parts x)) here in (0, omega arith, eqb-true x.0 level both.0)
      | inr later ↦ let at = over_at parts caps level later in (suc at.0, omega (arith, at.1), at.2)
    ]

pub first_over : (parts : List ℕ) (caps : List Cap) → RisesByLevel caps
    → MatchOption (option_map (λ (c : Cap). c.0) (find (λ c. not (is_under parts c)) caps)) ((level : ℕ) → over_in parts caps level ≡ false) (IsLeastOverIn parts caps)
first_over parts [] rises = λ level. refl
first_over parts (x ∷ caps) rises =
    elim (not (is_under parts x)) as (λ r. not (is_under parts x) ≡ r → MatchOption (option_map (λ (c : Cap). c.0) (cond r (Some x) (find (λ c. not (is_under parts c)) caps))) ((level : ℕ) → over_in parts (x ∷ caps) level ≡ false) (IsLeastOverIn parts (x ∷ caps))) [
      | true ↦ λ here. record {
        over = or_left (nat_eq x.0 x.0 && not (is_under parts x)) (over_in parts caps x.0) (and_from (nat_eq x.0 x.0) _ (eq-eqb x.0 x.0 refl) here);
        least = λ other h. elim (or_cases (nat_eq x.0 other && not (is_under parts x)) (over_in parts caps other) h) as (λ _. x.0 ≤ other) [
          | inl same ↦ omega (arith, eqb-true x.0 other (and_parts (nat_eq x.0 other) _ same).0)
          | inr later ↦ let at = over_at parts caps other later in let up : x.0 < level_at caps at.0 = rises 0 (suc at.0) (omega arith) (omega (arith, at.1)) in omega (arith, at.2)
        ];
      }
      | false ↦ λ here. later (option_map (λ (c : Cap). c.0) (find (λ c. not (is_under parts c)) caps)) here (first_over parts caps (λ i j lt in_range. rises (suc i) (suc j) (omega arith) (omega arith)))
    ] refl
  where
    skip : (level : ℕ) → not (is_under parts x) ≡ false → (nat_eq x.0 level && not (is_under parts x)) ≡ false
    skip level here = and_right_false (nat_eq x.0 level) (not (is_under parts x)) here

    later : (o : Option ℕ) → not (is_under parts x) ≡ false → MatchOption o ((level : ℕ) → over_in parts caps level ≡ false) (IsLeastOverIn parts caps) → MatchOption o ((level : ℕ) → over_in parts (x ∷ caps) level ≡ false) (IsLeastOverIn parts (x ∷ caps))
    later None here none = λ level. or_from (nat_eq x.0 level && not (is_under parts x)) (over_in parts caps level) (skip level here) (none level)
    later (Some y) here first = record {
      over = or_right (nat_eq x.0 y && not (is_under parts x)) (over_in parts caps y) first.over;
      least = λ other h. elim (or_cases (nat_eq x.0 other && not (is_under parts x)) (over_in parts caps other) h) as (λ _. y ≤ other) [ inl same ↦ absurd (both_ways _ (skip other here) same) | inr l ↦ first.least other l ];
    }

pub least_over : (rules : Rules) (parts : List ℕ) (r : Option ℕ) → MatchOption r ((level : ℕ) → over_in parts rules.caps level ≡ false) (IsLeastOverIn parts rules.caps)
    → MatchOption r ((level : ℕ) → is_over rules parts level ≡ false) (IsLeastOver rules parts)
least_over rules parts None none = none
least_over rules parts (Some level) first = record { over = first.over; least = first.least }

pub least_over_found : (rules : Rules) (parts : List ℕ) (r : Option ℕ) → RisesByLevel rules.caps → r ≡ option_map (λ (c : Cap). c.0) (find (λ c. not (is_under parts c)) rules.caps)
    → MatchOption r ((level : ℕ) → is_over rules parts level ≡ false) (IsLeastOver rules parts)
least_over_found rules parts r rises e =
    let P : Option ℕ → Type 0 = λ o. MatchOption o ((level : ℕ) → over_in parts rules.caps level ≡ false) (IsLeastOverIn parts rules.caps) in
    least_over rules parts r (subst P (sym e) (first_over parts rules.caps rises))
