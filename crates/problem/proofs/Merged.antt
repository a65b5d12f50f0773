-- The pieces, joined, are the resolvers.
use Rattle.std.proofs.Common.{inl, inr, ◌==◌, ◌≡◌, ◌<◌, ◌≤◌, ◌⊎◌, ◌+◌, ℕ, List, [], ◌∷◌, ◌++◌, Bool, true, false, not, ◌&&◌, ◌||◌, cond, nat_lt, nat_le, nat_eq, arith, refl, ap, sym, ◌∙◌, subst}
use Rattle.std.specs.List.{list_all, list_any, find}
use Rattle.std.specs.Option.{unwrap_or}
use Rattle.std.proofs.lemmas.List.Folds.{list_any-append, list_all-append}
use Rattle.std.proofs.lemmas.Bool.{and_from, eqb-true, eq-eqb, le-leb, ltb-true, lt-ltb, le-ltb, ltb-false}
use Rattle.std.proofs.lemmas.Bool.Decides.{nat_tests}
use Rattle.std.proofs.Math.Bool.{and-false}
use Rattle.lists.proofs.Below.{is_rising-below, list_all-below, has-below}
pub use Rattle.lists.proofs.Sets.{rising_same}
use Rattle.lists.proofs.Sets.{is_rising-append, has-filter, is_rising-filter}
use Rattle.lists.proofs.Tests.{list_all-filter_weaker, list_all_weaker, list_all-filter}
use Rattle.lists.proofs.Truth.{and_first, and_second}
use Rattle.lists.specs.Below.{below}
use Rattle.lists.specs.Sets.{is_rising, has}
use Rattle.resolver_model.specs.Problems.{Problem, IsWellFormed, version_count, package_count, dependency_count, dependency, package_of, start_of, changes, state, is_in_state, is_broken, is_open, is_install, leave_of, installs_of, is_install_resolver, is_resolver, resolvers}
use Rattle.problem.specs.Places.{absent_of, end_of}
use Rattle.problem.specs.Resolving.{is_free_install, free_targets, free_versions, leave_choices}
use Rattle.problem.proofs.Ranges.{package_from, place_from, absent-le-end, end_of-range}
use Rattle.resolver_model.proofs.Soundness.{resolver_below}

-- Rising lists with the same members are equal.

apart : (x c : ℕ) → x < c → nat_eq x c ≡ false
apart x c lt = grind (arith, nat_tests)

apart_back : (x c : ℕ) → c < x → nat_eq x c ≡ false
apart_back x c lt = grind (arith, nat_tests)

-- What is in a filter, in the numbers below one, and in a list joined of two.

pub rising_resolvers : (p : Problem) (set : List ℕ) (d : ℕ) → is_rising (resolvers p set d) ≡ true
rising_resolvers p set d = is_rising-filter (is_resolver p set d) (below (version_count p + dependency_count p)) (is_rising-below (version_count p + dependency_count p))

-- The state of a package that a set does not change is its start version.

find_none : (q : ℕ → Bool) (xs : List ℕ) (n : ℕ) → list_any q xs ≡ false → unwrap_or (find q xs) n ≡ n
find_none q [] n h = refl
find_none q (x ∷ xs) n h =
    elim (q x) as (λ r. q x ≡ r → unwrap_or (find q (x ∷ xs)) n ≡ n) [
      | true ↦ λ e. let no : true ≡ false = sym (ap (λ r. r || list_any q xs) e) ∙ h in absurd (cc)
      | false ↦ λ e. let rest : list_any q xs ≡ false = sym (ap (λ r. r || list_any q xs) e) ∙ h in rw e (find_none q xs n rest)
    ] refl

-- the source of an open dependency is not a free install
source_not_free : (p : Problem) (set : List ℕ) (d : ℕ) → is_open p set d ≡ true → is_free_install p set (dependency p d).source ≡ false
source_not_free p set d h =
    let source = (dependency p d).source in
    let q = package_of p source in
    let broken : is_broken p set d ≡ true = and_first (is_broken p set d) (not ((dependency p d).soft && has set (leave_of p d))) h in
    let shown : nat_eq (state p set q) source ≡ true = and_first (is_in_state p set source) (not (list_any (is_in_state p set) (dependency p d).targets)) broken in
    elim (changes p set q) as (λ r. changes p set q ≡ r → (is_install p source && not r) ≡ false) [
      | true ↦ λ _. and-false (is_install p source)
      | false ↦ λ e.
          let start : start_of p q ≡ source = sym (find_none (installs_of p q) set (start_of p q) e) ∙ eqb-true (state p set q) source shown in
          let no : not (nat_eq (start_of p q) source) ≡ false = ap not (eq-eqb (start_of p q) source start) in
          ap (λ r. (nat_lt source (version_count p) && r) && true) no ∙ both_none (nat_lt source (version_count p))
    ] refl
  where
    both_none : (a : Bool) → ((a && false) && true) ≡ false
    both_none true = refl
    both_none false = refl

-- One number at a time: whether it is in one of the pieces, and whether it is a resolver.

-- the install pieces that have a number, from what is known of the number: whether it is a free install, a target, and
-- another version of the source's package
abbrev in_pieces : ℕ → ℕ → ℕ → ℕ → Bool → Bool → Bool
in_pieces first end count c free target =
    (((nat_le 0 c && nat_lt c first && free) && target) || ((nat_le first c && free) && nat_lt c end)) || ((nat_le end c && nat_lt c count && free) && target)

not_free : (first end count c : ℕ) (target other : Bool) → in_pieces first end count c false target ≡ (false && (target || other))
not_free first end count c target other = none (nat_le 0 c && nat_lt c first) (nat_le first c) (nat_lt c end) (nat_le end c && nat_lt c count) target
  where
    none : (a b e f t : Bool) → ((((a && false) && t) || ((b && false) && e)) || ((f && false) && t)) ≡ false
    none true true e true t = refl
    none true true e false t = refl
    none true false e true t = refl
    none true false e false t = refl
    none false true e true t = refl
    none false true e false t = refl
    none false false e true t = refl
    none false false e false t = refl

free_outside : (first end count c : ℕ) (target other : Bool) → first ≤ end → c < count → (c < first) ⊎ (end ≤ c) → other ≡ false → in_pieces first end count c true target ≡ (true && (target || other))
free_outside first end count c target other le lt where_is e =
    elim where_is as (λ _. in_pieces first end count c true target ≡ (true && (target || other))) [
      | inl low ↦ rw (le-leb 0 c (omega arith), lt-ltb c first low, leb_past first c low, leb_past end c (omega arith), e) (one target)
      | inr high ↦ rw (le-leb 0 c (omega arith), le-ltb c first (omega arith), le-leb first c (omega arith), le-ltb c end high, le-leb end c high, lt-ltb c count lt, e) (two target)
    ]
  where
    leb_past : (a b : ℕ) → b < a → nat_le a b ≡ false
    leb_past a b h = grind (arith, nat_tests)

    one : (t : Bool) → ((t || false) || false) ≡ (t || false)
    one true = refl
    one false = refl

    two : (t : Bool) → t ≡ (t || false)
    two true = refl
    two false = refl

free_inside : (first end count c : ℕ) (target other : Bool) → first ≤ c → c < end → other ≡ true → in_pieces first end count c true target ≡ (true && (target || other))
free_inside first end count c target other low high e =
    rw (le-leb first c low, lt-ltb c end high, e) (all (nat_le 0 c && nat_lt c first) (nat_le end c && nat_lt c count) target)
  where
    all : (a b t : Bool) → ((((a && true) && t) || true) || ((b && true) && t)) ≡ (t || true)
    all true b true = refl
    all true b false = refl
    all false b true = refl
    all false b false = refl

-- whether a number is another version of the source's package
abbrev is_other : Problem → ℕ → ℕ → Bool
is_other p d c = (package_of p c == package_of p (dependency p d).source) && not (c == (dependency p d).source)

installs_agree : (p : Problem) → IsWellFormed p → (set : List ℕ) (d : ℕ) → d < dependency_count p → is_open p set d ≡ true → (c : ℕ)
    → in_pieces (absent_of p (package_of p (dependency p d).source)) (end_of p (package_of p (dependency p d).source)) (version_count p) c (is_free_install p set c) (has (dependency p d).targets c)
    ≡ is_install_resolver p set d c
installs_agree p w set d lt open_at c =
    let source = (dependency p d).source in
    let q = package_of p source in
    let first = absent_of p q in
    let end = end_of p q in
    let target = has (dependency p d).targets c in
    let package_lt : q < package_count p = w.owners source (w.sources d lt) in
    let le : first ≤ end = absent-le-end p w q package_lt in
    elim (is_free_install p set c) as (λ r. is_free_install p set c ≡ r → in_pieces first end (version_count p) c r target ≡ (r && (target || is_other p d c))) [
      | false ↦ λ _. not_free first end (version_count p) c target (is_other p d c)
      | true ↦ λ free.
          let version : c < version_count p = free_version p set c free in
          let apart : nat_eq c source ≡ false = free_apart p set d open_at c free in
          elim (nat_eq (package_of p c) q) as (λ r. nat_eq (package_of p c) q ≡ r → in_pieces first end (version_count p) c true target ≡ (true && (target || is_other p d c))) [
            | true ↦ λ own.
                let place = place_from p w q c version (eqb-true (package_of p c) q own) in
                let other : is_other p d c ≡ true = and_from (nat_eq (package_of p c) q) (not (nat_eq c source)) own (ap not apart) in
                free_inside first end (version_count p) c target (is_other p d c) place.0 place.1 other
            | false ↦ λ differs.
                let other : is_other p d c ≡ false = ap (λ r. r && not (nat_eq c source)) differs in
                free_outside first end (version_count p) c target (is_other p d c) le version (outside p w q c version differs) other
          ] refl
    ] refl
  where
    free_version : (p : Problem) (set : List ℕ) (c : ℕ) → is_free_install p set c ≡ true → c < version_count p
    free_version p set c h =
        let install : is_install p c ≡ true = and_first (is_install p c) (not (changes p set (package_of p c))) h in
        ltb-true c (version_count p) (and_first (nat_lt c (version_count p)) (not (nat_eq (start_of p (package_of p c)) c)) install)

    free_apart : (p : Problem) (set : List ℕ) (d : ℕ) → is_open p set d ≡ true → (c : ℕ) → is_free_install p set c ≡ true → nat_eq c (dependency p d).source ≡ false
    free_apart p set d open_at c free =
        elim (nat_eq c (dependency p d).source) as (λ r. nat_eq c (dependency p d).source ≡ r → r ≡ false) [
          | true ↦ λ e.
              let no : true ≡ false = sym free ∙ ap (is_free_install p set) (eqb-true c (dependency p d).source e) ∙ source_not_free p set d open_at in
              absurd (cc)
          | false ↦ λ _. refl
        ] refl

    outside : (p : Problem) → IsWellFormed p → (q c : ℕ) → c < version_count p → nat_eq (package_of p c) q ≡ false → (c < absent_of p q) ⊎ (end_of p q ≤ c)
    outside p w q c version differs =
        elim (nat_lt c (absent_of p q)) as (λ r. nat_lt c (absent_of p q) ≡ r → (c < absent_of p q) ⊎ (end_of p q ≤ c)) [
          | true ↦ λ low. inl (ltb-true c (absent_of p q) low)
          | false ↦ λ low.
              elim (nat_lt c (end_of p q)) as (λ r. nat_lt c (end_of p q) ≡ r → (c < absent_of p q) ⊎ (end_of p q ≤ c)) [
                | true ↦ λ high.
                    let own = package_from p w q c version (ltb-false c (absent_of p q) low) (ltb-true c (end_of p q) high) in
                    let yes : true ≡ false = sym (eq-eqb (package_of p c) q own) ∙ differs in
                    absurd (cc)
                | false ↦ λ high. inr (ltb-false c (end_of p q) high)
              ] refl
        ] refl

-- the pieces, one after another
abbrev pub pieces : Problem → List ℕ → ℕ → ℕ → ℕ → List ℕ
pieces p set d first end =
    ((free_targets p set d 0 first ++ free_versions p set first end) ++ free_targets p set d end (version_count p)) ++ leave_choices p d

has_leave : (p : Problem) (d c : ℕ) → has (leave_choices p d) c ≡ ((dependency p d).soft && nat_eq c (leave_of p d))
has_leave p d c =
    elim ((dependency p d).soft) as (λ r. has (cond r (leave_of p d ∷ []) []) c ≡ (r && nat_eq c (leave_of p d))) [
      | true ↦ turned (leave_of p d) c
      | false ↦ refl
    ]
  where
    turned : (a b : ℕ) → (nat_eq a b || false) ≡ nat_eq b a
    turned a b = grind (arith, nat_tests)

has_pieces : (p : Problem) (set : List ℕ) (d first end c : ℕ)
    → has (pieces p set d first end) c ≡ (in_pieces first end (version_count p) c (is_free_install p set c) (has (dependency p d).targets c) || ((dependency p d).soft && nat_eq c (leave_of p d)))
has_pieces p set d first end c =
    let low = free_targets p set d 0 first in
    let own = free_versions p set first end in
    let high = free_targets p set d end (version_count p) in
    let targets = (dependency p d).targets in
    let in_low : has low c ≡ ((nat_le 0 c && nat_lt c first && is_free_install p set c) && has targets c) = has-filter (λ c. nat_le 0 c && nat_lt c first && is_free_install p set c) targets c in
    let in_high : has high c ≡ ((nat_le end c && nat_lt c (version_count p) && is_free_install p set c) && has targets c) =
    has-filter (λ c. nat_le end c && nat_lt c (version_count p) && is_free_install p set c) targets c in
    let in_own : has own c ≡ ((nat_le first c && is_free_install p set c) && nat_lt c end) =
    has-filter (λ c. nat_le first c && is_free_install p set c) (below end) c ∙ ap (λ r. (nat_le first c && is_free_install p set c) && r) (has-below end c) in
    list_any-append (λ x. nat_eq x c) ((low ++ own) ++ high) (leave_choices p d)
    ∙ ap (λ r. r || has (leave_choices p d) c) (list_any-append (λ x. nat_eq x c) (low ++ own) high ∙ ap (λ r. r || has high c) (list_any-append (λ x. nat_eq x c) low own))
    ∙ joined (has low c) (has own c) (has high c) (has (leave_choices p d) c) _ _ _ _ in_low in_own in_high (has_leave p d c)
  where
    joined : (a b e f a' b' e' f' : Bool) → a ≡ a' → b ≡ b' → e ≡ e' → f ≡ f' → (((a || b) || e) || f) ≡ (((a' || b') || e') || f')
    joined a b e f a' b' e' f' ha hb he hf = cc

has_resolvers : (p : Problem) (set : List ℕ) (d c : ℕ) → d < dependency_count p → has (resolvers p set d) c ≡ is_resolver p set d c
has_resolvers p set d c lt =
    let count = version_count p + dependency_count p in
    has-filter (is_resolver p set d) (below count) c ∙ ap (λ r. is_resolver p set d c && r) (has-below count c)
    ∙ elim (is_resolver p set d c) as (λ r. is_resolver p set d c ≡ r → (r && nat_lt c count) ≡ r) [
      | true ↦ λ e. lt-ltb c count (resolver_below p set d c lt e)
      | false ↦ λ _. refl
    ] refl

rising_pieces : (p : Problem) → IsWellFormed p → (set : List ℕ) (d first end : ℕ) → d < dependency_count p → first ≤ end → end ≤ version_count p → is_rising (pieces p set d first end) ≡ true
rising_pieces p w set d first end lt le max =
    let low = free_targets p set d 0 first in
    let own = free_versions p set first end in
    let high = free_targets p set d end (version_count p) in
    let targets = (dependency p d).targets in
    let rising : is_rising targets ≡ true = and_first (is_rising targets) (list_all (λ v. nat_lt v (version_count p)) targets) (w.targets d lt) in
    let low_rises : is_rising low ≡ true = is_rising-filter (λ c. nat_le 0 c && nat_lt c first && is_free_install p set c) targets rising in
    let own_rises : is_rising own ≡ true = is_rising-filter (λ c. nat_le first c && is_free_install p set c) (below end) (is_rising-below end) in
    let high_rises : is_rising high ≡ true = is_rising-filter (λ c. nat_le end c && nat_lt c (version_count p) && is_free_install p set c) targets rising in
    let low_less : list_all (λ c. nat_lt c first) low ≡ true =
    list_all-filter_weaker (λ c. nat_le 0 c && nat_lt c first && is_free_install p set c) (λ c. nat_lt c first) (λ c h. and_second (nat_le 0 c) (nat_lt c first) (and_first (nat_le 0 c && nat_lt c first) (is_free_install p set c) h)) targets in
    let own_least : list_all (λ c. nat_le first c) own ≡ true =
    list_all-filter_weaker (λ c. nat_le first c && is_free_install p set c) (λ c. nat_le first c) (λ c h. and_first (nat_le first c) (is_free_install p set c) h) (below end) in
    let own_less : list_all (λ c. nat_lt c end) own ≡ true = list_all-filter (λ c. nat_lt c end) (λ c. nat_le first c && is_free_install p set c) (below end) (list_all-below end) in
    let high_least : list_all (λ c. nat_le end c) high ≡ true =
    list_all-filter_weaker (λ c. nat_le end c && nat_lt c (version_count p) && is_free_install p set c) (λ c. nat_le end c) (λ c h. and_first (nat_le end c) (nat_lt c (version_count p)) (and_first (nat_le end c && nat_lt c (version_count p)) (is_free_install p set c) h)) targets in
    let high_less : list_all (λ c. nat_lt c (version_count p)) high ≡ true =
    list_all-filter_weaker (λ c. nat_le end c && nat_lt c (version_count p) && is_free_install p set c) (λ c. nat_lt c (version_count p)) (λ c h. and_second (nat_le end c) (nat_lt c (version_count p)) (and_first (nat_le end c && nat_lt c (version_count p)) (is_free_install p set c) h)) targets in
    let two : is_rising (low ++ own) ≡ true = is_rising-append first low own low_rises own_rises low_less own_least in
    let two_less : list_all (λ c. nat_lt c end) (low ++ own) ≡ true =
    list_all-append (λ c. nat_lt c end) low own ∙ and_from (list_all (λ c. nat_lt c end) low) (list_all (λ c. nat_lt c end) own) (more first end le low low_less) own_less in
    let three : is_rising ((low ++ own) ++ high) ≡ true = is_rising-append end (low ++ own) high two high_rises two_less high_least in
    let three_less : list_all (λ c. nat_lt c (version_count p)) ((low ++ own) ++ high) ≡ true =
    list_all-append (λ c. nat_lt c (version_count p)) (low ++ own) high
    ∙ and_from (list_all (λ c. nat_lt c (version_count p)) (low ++ own)) (list_all (λ c. nat_lt c (version_count p)) high) (more end (version_count p) max (low ++ own) two_less) high_less in
    is_rising-append (version_count p) ((low ++ own) ++ high) (leave_choices p d) three (leave_rises p d) three_less (leave_least p d)
  where
    more : (a b : ℕ) → a ≤ b → (xs : List ℕ) → list_all (λ c. nat_lt c a) xs ≡ true → list_all (λ c. nat_lt c b) xs ≡ true
    more a b h xs k = list_all_weaker (λ c. nat_lt c a) (λ c. nat_lt c b) (λ c e. lt-ltb c b (omega (arith, ltb-true c a e))) xs k

    leave_rises : (p : Problem) (d : ℕ) → is_rising (leave_choices p d) ≡ true
    leave_rises p d = elim ((dependency p d).soft) as (λ r. is_rising (cond r (leave_of p d ∷ []) []) ≡ true) [ true ↦ refl | false ↦ refl ]

    leave_least : (p : Problem) (d : ℕ) → list_all (λ c. nat_le (version_count p) c) (leave_choices p d) ≡ true
    leave_least p d =
        elim ((dependency p d).soft) as (λ r. list_all (λ c. nat_le (version_count p) c) (cond r (leave_of p d ∷ []) []) ≡ true) [
          | true ↦ and_from (nat_le (version_count p) (leave_of p d)) true (le-leb (version_count p) (leave_of p d) (omega arith)) refl
          | false ↦ refl
        ]

pub pieces_resolve : (p : Problem) → IsWellFormed p → (set : List ℕ) (d first end : ℕ) → d < dependency_count p → is_open p set d ≡ true
    → first ≡ absent_of p (package_of p (dependency p d).source) → end ≡ end_of p (package_of p (dependency p d).source) → pieces p set d first end ≡ resolvers p set d
pieces_resolve p w set d first end lt open_at e f =
    let q = package_of p (dependency p d).source in
    let package_lt : q < package_count p = w.owners (dependency p d).source (w.sources d lt) in
    let P : ℕ → Type 0 = λ m. pieces p set d m end ≡ resolvers p set d in
    let Q : ℕ → Type 0 = λ m. pieces p set d (absent_of p q) m ≡ resolvers p set d in
    let leave = λ (c : ℕ). (dependency p d).soft && nat_eq c (leave_of p d) in
    let same : pieces p set d (absent_of p q) (end_of p q) ≡ resolvers p set d =
    rising_same (pieces p set d (absent_of p q) (end_of p q)) (resolvers p set d)
    (rising_pieces p w set d (absent_of p q) (end_of p q) lt (absent-le-end p w q package_lt) (end_of-range p q))
    (rising_resolvers p set d)
    (λ c. has_pieces p set d (absent_of p q) (end_of p q) c ∙ ap (λ r. r || leave c) (installs_agree p w set d lt open_at c) ∙ sym (has_resolvers p set d c lt)) in
    subst P (sym e) (subst Q (sym f) same)

-- a list that was made by adding one piece after another
pub joined_pieces : (l0 l1 l2 l3 l4 l5 a b e f : List ℕ) → l0 ≡ [] → l1 ≡ l0 ++ a → l2 ≡ l1 ++ b → l3 ≡ l2 ++ e → l4 ≡ l3 ++ f → l5 ≡ l4 → l5 ≡ ((a ++ b) ++ e) ++ f
joined_pieces l0 l1 l2 l3 l4 l5 a b e f h0 h1 h2 h3 h4 h5 =
    let first : l1 ≡ a = h1 ∙ ap (λ l. l ++ a) h0 in
    let second : l2 ≡ a ++ b = h2 ∙ ap (λ l. l ++ b) first in
    let third : l3 ≡ (a ++ b) ++ e = h3 ∙ ap (λ l. l ++ e) second in
    h5 ∙ h4 ∙ ap (λ l. l ++ f) third
