-- The order of versions over all packages: it is total, and no two versions of a universe are equal in it.
use Rattle.std.proofs.Common.{◌≡◌, ◌<◌, ℕ, true, List, refl, subst, Some, None, Option, option_map, AllPairs, get_or}
use Rattle.std.specs.Cmp.{IsTotalOrder}
use Rattle.std.specs.Cmp.Lexicographic.{options_total}
use Rattle.std.specs.Option.{option_cmp}
use Rattle.std.specs.Ordering.{is_eq, nat_cmp, ordering_then}
use Rattle.std.specs.declared.cmp.Ordering.{Ordering}
use Rattle.std.specs.declared.cmp.Ordering.TheVariants.{Less, Equal, Greater}
use Rattle.std.proofs.lemmas.Bool.{both_ways, false_from_ne_true}
use Rattle.std.proofs.lemmas.Cmp.{nat_cmp_total, on_total, then_total, ranked}
use Rattle.std.specs.Ordering.{MatchOrdering}
use Rattle.deb_version.specs.Versions.{parts}
use Rattle.deb_version.specs.VersionOrder.{version_order}
use Rattle.deb_version.proofs.Keys.{version_order-preorder}
use Rattle.universe_model.proofs.Orders.{order-total}
use Rattle.universe_model.specs.Reading.{Stanzas}
use Rattle.universe_model.specs.Universes.{Known, owner_of, universe_of}
use Rattle.universe_model.specs.Versions.{is_equal}
use Rattle.laws_universe.specs.Standing.{known_parts, known_order, StandApart}
use Rattle.laws_universe.proofs.Sound.{AreApart, AreUnequal}
use Rattle.laws_universe.proofs.Versions.{versions-apart}

pub known_order-total : IsTotalOrder known_order
known_order-total = then_total (on_total owner_of nat_cmp_total) (on_total known_parts (options_total (order-total version_order version_order-preorder)))

-- two parts of an order are equal where the whole is
then-parts : (o p : Ordering) → is_eq (ordering_then o p) ≡ true → (o ≡ Equal) × (is_eq p ≡ true)
then-parts Less p h = absurd (cc)
then-parts Equal p h = (refl, h)
then-parts Greater p h = absurd (cc)

same-number : (a b : ℕ) (o : Ordering) → o ≡ nat_cmp a b → o ≡ Equal → a ≡ b
same-number a b o is equal = subst (λ r. MatchOrdering r (Unit {0}) (a ≡ b) (Unit {0})) equal (by o (ranked a b o is))
  where
    by : (r : Ordering) → MatchOrdering r (a < b) (a ≡ b) (b < a) → MatchOrdering r (Unit {0}) (a ≡ b) (Unit {0})
    by Less h = tt
    by Equal h = h
    by Greater h = tt

unequal : (earlier text : Option (List ℕ)) → AreUnequal earlier text → is_eq (option_cmp version_order (option_map parts earlier) (option_map parts text)) ≡ true → ⊥
unequal earlier None apart h = apart
unequal None (Some text) apart h = absurd (cc)
unequal (Some earlier) (Some text) apart h = both_ways (is_equal (parts earlier) (parts text)) apart h

apart-stands : (v w : Known) → AreApart v w → StandApart v w
apart-stands v w apart =
    false_from_ne_true (is_eq (known_order v w))
    (λ h.
    let both = then-parts (nat_cmp v.package_number w.package_number) (option_cmp version_order (known_parts v) (known_parts w)) h in
    unequal v.text w.text (apart (same-number v.package_number w.package_number (nat_cmp v.package_number w.package_number) refl both.0)) both.1)

pub versions-stand : (stanzas : Stanzas) (native : List ℕ) → AllPairs StandApart (universe_of native stanzas).versions
versions-stand stanzas native i j d less l =
    apart-stands (get_or (universe_of native stanzas).versions i d) (get_or (universe_of native stanzas).versions j d) (versions-apart stanzas i j d less l)
