-- What the order of versions tells of tests on them.
use Rattle.std.proofs.Common.{◌≡◌, true, false, ◌&&◌, refl, sym, ap, ◌∙◌}
use Rattle.std.specs.Cmp.{IsEquivalence, IsTotalOrder, both_ways}
use Rattle.std.specs.declared.cmp.Ordering.{Ordering}
use Rattle.std.specs.declared.cmp.Ordering.TheVariants.{Less, Equal, Greater}
use Rattle.std.specs.Ordering.{ordering_reverse, is_le, is_eq, is_gt}
use Rattle.lists.proofs.Orders.{not_le-from_gt, is_gt-from_not_le, is_le-reverse_from_gt, not_gt-from_le, is_le-from_not_gt, is_le-from_eq, is_eq-reverse, is_eq-both}
use Rattle.deb_version.specs.VersionOrder.{IsTotalPreorder}

same-orderings : (r s : Ordering) → is_le r ≡ is_le s → is_le (ordering_reverse r) ≡ is_le (ordering_reverse s) → r ≡ s
same-orderings Less Less e f = refl
same-orderings Less Equal e f = absurd (cc)
same-orderings Less Greater e f = absurd (cc)
same-orderings Equal Less e f = absurd (cc)
same-orderings Equal Equal e f = refl
same-orderings Equal Greater e f = absurd (cc)
same-orderings Greater Less e f = absurd (cc)
same-orderings Greater Equal e f = absurd (cc)
same-orderings Greater Greater e f = refl

greater-back : (r : Ordering) → is_gt r ≡ true → ordering_reverse r ≡ Less
greater-back Less e = absurd (cc)
greater-back Equal e = absurd (cc)
greater-back Greater e = refl

module _ {K : Type 0} (R : K → K → Ordering) (laws : IsTotalPreorder R) where
  back : (x y : K) → is_gt (R x y) ≡ true → is_le (R y x) ≡ true
  back x y e = ap is_le (laws.total y x) ∙ is_le-reverse_from_gt (R x y) e

  -- nothing is later than itself
  pub later-itself : (x : K) → is_gt (R x x) ≡ false
  later-itself x = ap is_gt (laws.reflexive x)

  pub later-back : (x y : K) → is_gt (R x y) ≡ true → is_gt (R y x) ≡ false
  later-back x y e = not_gt-from_le (R y x) (back x y e)

  -- what is later than b is later than what is not later than b
  pub later-above : (x b c : K) → is_gt (R x b) ≡ true → is_gt (R c b) ≡ false → is_gt (R x c) ≡ true
  later-above x b c up below = is_gt-from_not_le (R x c) (λ h. not_le-from_gt (R x b) up (laws.transitive x c b h (is_le-from_not_gt (R c b) below)))

  eq-both : (x y : K) → is_eq (R x y) ≡ (is_le (R x y) && is_le (R y x))
  eq-both x y = is_eq-both (R x y) ∙ ap (λ r. is_le (R x y) && is_le r) (sym (laws.total y x))

  eq-symm : (x y : K) → is_eq (R x y) ≡ is_eq (R y x)
  eq-symm x y = sym (is_eq-reverse (R x y)) ∙ ap is_eq (sym (laws.total y x))

  le-eq : (x y : K) → is_eq (R x y) ≡ true → is_le (R x y) ≡ true
  le-eq x y e = is_le-from_eq (R x y) e

  le-left : (x y z : K) → is_eq (R x y) ≡ true → is_le (R x z) ≡ is_le (R y z)
  le-left x y z e =
      both_ways (is_le (R x z)) (is_le (R y z))
      (λ h. laws.transitive y x z (le-eq y x (eq-symm y x ∙ e)) h)
      (λ h. laws.transitive x y z (le-eq x y e) h)

  le-right : (x y z : K) → is_eq (R x y) ≡ true → is_le (R z x) ≡ is_le (R z y)
  le-right x y z e =
      both_ways (is_le (R z x)) (is_le (R z y))
      (λ h. laws.transitive z x y h (le-eq x y e))
      (λ h. laws.transitive z y x h (le-eq y x (eq-symm y x ∙ e)))

  -- to be equal in the order is an equivalence
  pub equal-equivalence : IsEquivalence (λ x y. is_eq (R x y))
  equal-equivalence = record {
    refl = λ x. ap is_eq (laws.reflexive x);
    symm = eq-symm;
    congr = λ x y z e.
        eq-both x z
        ∙ ap (λ b. b && is_le (R z x)) (le-left x y z e)
        ∙ ap (λ b. is_le (R y z) && b) (le-right x y z e)
        ∙ sym (eq-both y z);
  }

  -- in the words of std
  pub order-total : IsTotalOrder R
  order-total = record {
    antisymm = laws.total;
    trans = λ x y z p q.
        laws.total x z
        ∙ greater-back (R z x) (later-above z y x (ap is_gt (laws.total z y ∙ ap ordering_reverse q)) (ap is_gt p));
    congr = λ x y z e.
        same-orderings (R x z) (R y z) (le-left x y z (ap is_eq e))
        (ap is_le (sym (laws.total z x)) ∙ le-right x y z (ap is_eq e) ∙ ap is_le (laws.total z y));
  }
