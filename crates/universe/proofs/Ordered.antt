-- A version is found by halves in the order of all.
use Rattle.std.proofs.Common.{◌≡◌, ◌<◌, ℕ, Bool, true, false, ◌&&◌, ◌==◌, List, length, get_or, refl, sym, ap, ◌∙◌, inl, inr, arith, Some, None, Option, Result, eqb-true, AllPairs, Bor}
use denote.Param.Members.{Mut, Called}
use Rattle.std.specs.Cmp.{IsStrictWeakOrder, IsTotalOrder, tied_then}
use Rattle.std.specs.Fn.{ComparesAs, ComputesKey}
use Rattle.std.specs.List.Sorted.{IsSorted, IsSortedBy, IsNonDecreasingBy, IsBinarySearchResult, IsPartitionPoint, IsPermutation}
use Rattle.std.specs.Option.{option_cmp}
use Rattle.std.specs.Ordering.{is_eq, is_lt, nat_cmp, ordering_index}
use Rattle.std.specs.declared.cmp.Ordering.{Ordering}
use Rattle.std.specs.declared.cmp.Ordering.TheVariants.{Less, Equal, Greater}
use Rattle.std.proofs.lemmas.Bool.{and_parts, both_ways, cases_lt, false_from_ne_true}
use Rattle.std.proofs.lemmas.Bool.Decides.{nat_tests}
use Rattle.std.proofs.lemmas.Cmp.{tied_back}
use Rattle.std.proofs.lemmas.Fn.{always_returns_same}
use Rattle.std.proofs.lemmas.List.{get_or_past}
use Rattle.std.proofs.lemmas.List.MinMax.{ranks_by}
use Rattle.std.proofs.lemmas.List.Sorted.{searchable_from_sorted, list_any-IsPermutation}
use Rattle.deb_version.specs.Versions.{parts}
use Rattle.deb_version.specs.VersionOrder.{version_order}
use Rattle.lists.specs.Below.{below}
use Rattle.lists.specs.Sets.{has}
use Rattle.lists.proofs.Below.{has-below_from}
use Rattle.lists.proofs.Sets.{has_place}
use Rattle.laws_universe.specs.Standing.{known_order, known_parts, StandApart}
use Rattle.laws_universe.proofs.KnownOrder.{known_order-total}
use Rattle.laws_universe.proofs.Places.{position-some}
use Rattle.universe_model.specs.Universes.{Known, Universe, is_of, is_text_of, nothing_known, version_in, version_numbered}
use Rattle.universe.specs.Order.{AreInOrder, sought}
use Rattle.universe.proofs.Walks.{position-none}

-- ---- one version

equal-numbers : (a b : ℕ) → is_eq (nat_cmp a b) ≡ (a == b)
equal-numbers a b = grind (arith, nat_tests)

equal-texts : (text : List ℕ) (own : Option (List ℕ)) → is_eq (option_cmp version_order (known_parts (record { package_number = 0; text = own; essential = false })) (Some (parts text))) ≡ is_text_of (parts text) own
equal-texts text None = refl
equal-texts text (Some own) = refl

-- what is sought is what is equal to it
pub equal-sought : (v : Known) (q : ℕ) (text : List ℕ) → (is_of q v && is_text_of (parts text) v.text) ≡ is_eq (known_order v (sought q text))
equal-sought v q text =
    ap (λ b. b && is_text_of (parts text) v.text) (sym (equal-numbers v.package_number q))
    ∙ ap (λ b. is_eq (nat_cmp v.package_number q) && b) (sym (equal-texts text v.text))
    ∙ tied_then (nat_cmp v.package_number q) (option_cmp version_order (known_parts v) (Some (parts text)))

is-equal : (o : Ordering) → is_eq o ≡ true → o ≡ Equal
is-equal Less h = absurd (cc)
is-equal Equal h = refl
is-equal Greater h = absurd (cc)

-- ---- all

module _ (u : Universe) (q : ℕ) (text : List ℕ) where
  abbrev pub test : Known → Bool
  test v = is_of q v && is_text_of (parts text) v.text

  equal-passes : (k : ℕ) → known_order (version_numbered u k) (sought q text) ≡ Equal → test (version_numbered u k) ≡ true
  equal-passes k equal = equal-sought (version_numbered u k) q text ∙ ap is_eq equal

  passes-equal : (k : ℕ) → test (version_numbered u k) ≡ true → known_order (version_numbered u k) (sought q text) ≡ Equal
  passes-equal k h = is-equal (known_order (version_numbered u k) (sought q text)) (sym (equal-sought (version_numbered u k) q text) ∙ h)

  -- what is found is a version of the package
  pub found-within : (n : ℕ) → known_order (version_numbered u n) (sought q text) ≡ Equal → n < length u.versions
  found-within n equal =
      elim (cases_lt n (length u.versions)) [
        | inl less ↦ less
        | inr past ↦
            (let nothing : version_numbered u n ≡ nothing_known = get_or_past u.versions n nothing_known past in
            let none : is_text_of (parts text) (version_numbered u n).text ≡ false = ap (λ (v : Known). is_text_of (parts text) v.text) nothing in
            absurd (both_ways (is_text_of (parts text) (version_numbered u n).text) none (and_parts (is_of q (version_numbered u n)) (is_text_of (parts text) (version_numbered u n).text) (equal-passes n equal)).1))
      ]

  pub found-own : (n : ℕ) → known_order (version_numbered u n) (sought q text) ≡ Equal → (version_numbered u n).package_number ≡ q
  found-own n equal =
      eqb-true (version_numbered u n).package_number q
      (and_parts (is_of q (version_numbered u n)) (is_text_of (parts text) (version_numbered u n).text) (equal-passes n equal)).0

  -- no earlier version is equal to it
  pub version-found : AllPairs StandApart u.versions → (n : ℕ) → known_order (version_numbered u n) (sought q text) ≡ Equal → version_in u q (parts text) ≡ Some n
  version-found apart n equal =
      position-some test u.versions n nothing_known (found-within n equal)
      (λ k less.
      false_from_ne_true (test (version_numbered u k))
      (λ h.
      let same : known_order (version_numbered u k) (version_numbered u n) ≡ Equal =
      known_order-total.congr (version_numbered u k) (sought q text) (version_numbered u n) (passes-equal k h)
      ∙ tied_back known_order-total (version_numbered u n) (sought q text) equal
      in both_ways (is_eq (known_order (version_numbered u k) (version_numbered u n))) (apart k n nothing_known less (found-within n equal)) (ap is_eq same)))
      (equal-passes n equal)

  module _ (order : List ℕ) (all : AreInOrder u.versions order) where
    -- the search may go by halves
    pub order-parted : IsNonDecreasingBy (λ v. ordering_index (known_order (version_numbered u v) (sought q text))) order
    order-parted = searchable_from_sorted known_order-total (version_numbered u) order (sought q text) all.sorted

    pub version-missing : (i : ℕ) → IsPartitionPoint (λ v. known_order (version_numbered u v) (sought q text) ≡ Less) (λ v. known_order (version_numbered u v) (sought q text) ≡ Greater) order i
        → version_in u q (parts text) ≡ None
    version-missing i point =
        position-none test u.versions nothing_known
        (λ k less.
        false_from_ne_true (test (version_numbered u k))
        (λ h.
        let at = has_place order k (all.all k less) in
        let here : known_order (version_numbered u (get_or order at.0 0)) (sought q text) ≡ Equal =
        ap (λ j. known_order (version_numbered u j) (sought q text)) at.2 ∙ passes-equal k h
        in
        elim (cases_lt at.0 i) [
          | inl before ↦ other Less (λ e. absurd (cc)) (known_order (version_numbered u (get_or order at.0 0)) (sought q text)) here (point.0 at.0 0 (omega arith) before)
          | inr late ↦ other Greater (λ e. absurd (cc)) (known_order (version_numbered u (get_or order at.0 0)) (sought q text)) here (point.1 at.0 0 late at.1)
        ]))
      where
        other : (o : Ordering) → (o ≡ Equal → ⊥) → (r : Ordering) → r ≡ Equal → r ≡ o → ⊥
        other o apart r equal is = apart (sym is ∙ equal)

-- a list of all numbers that was sorted has them all
pub all-in : (n : ℕ) (numbers sorted : List ℕ) → numbers ≡ below n → IsPermutation numbers sorted → (v : ℕ) → v < n → has sorted v ≡ true
all-in n numbers sorted same moved v less =
    sym (list_any-IsPermutation (λ other. other == v) numbers sorted moved) ∙ ap (λ list. has list v) same ∙ has-below_from n v less

-- what a sort by a closure ensures, where each call compares the keys of the two
pub sorted-from_clause : {X K : Type 0} {R : K → K → Ordering} (o : IsTotalOrder R) (key : X → K) → {F : Type 0} {g : Mut F (Bor X × (Bor X × Unit {0})) Ordering} {f : F} (xs : List X)
    → ((lt : X → X → Bool) → IsStrictWeakOrder lt → ComparesAs g lt f → IsSortedBy lt xs)
    → ((a : Bor X × (Bor X × Unit {0})) (r : Ordering) (f' : F) → Called g f a r f' → (r ≡ R (key a.0.now) (key a.1.0.now)) × (f' ≡ f)) → IsSorted (λ x y. R (key x) (key y)) xs
sorted-from_clause {R = R} o key {g = g} {f = f} xs sorted answers =
    sorted (λ x y. is_lt (R (key x) (key y))) (ranks_by o key)
    (always_returns_same g (λ a r. is_lt r ≡ is_lt (R (key a.0.now) (key a.1.0.now))) f (λ a r f' called. let told = answers a r f' called in (ap is_lt told.0, told.1)))

-- what a binary search by a closure ensures, where each call gives how the item stands
pub searched-from_clause : {X : Type 0} (stands : X → Ordering) → {F : Type 0} {g : Mut F (Bor X × Unit {0}) Ordering} {f : F} (xs : List X) (found : Result ℕ ℕ)
    → ((order : X → Ordering) → ComputesKey g order f → IsBinarySearchResult order xs found)
    → ((a : Bor X × Unit {0}) (r : Ordering) (f' : F) → Called g f a r f' → (r ≡ stands a.0.now) × (f' ≡ f)) → IsBinarySearchResult stands xs found
searched-from_clause stands {g = g} {f = f} xs found position answers = position stands (always_returns_same g (λ a r. r ≡ stands a.0.now) f answers)
