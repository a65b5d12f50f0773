-- What an answer of a comparison tells of tests on it.
use Rattle.std.proofs.Common.{◌≡◌, true, false, ◌&&◌, refl}
use Rattle.std.specs.declared.cmp.Ordering.{Ordering}
use Rattle.std.specs.declared.cmp.Ordering.TheVariants.{Less, Equal, Greater}
use Rattle.std.specs.Ordering.{ordering_reverse, ordering_then, is_le, is_eq, is_gt}

pub is_eq-both : (r : Ordering) → is_eq r ≡ (is_le r && is_le (ordering_reverse r))
is_eq-both Less = refl
is_eq-both Equal = refl
is_eq-both Greater = refl

pub is_eq-reverse : (r : Ordering) → is_eq (ordering_reverse r) ≡ is_eq r
is_eq-reverse Less = refl
is_eq-reverse Equal = refl
is_eq-reverse Greater = refl

pub is_le-from_eq : (r : Ordering) → is_eq r ≡ true → is_le r ≡ true
is_le-from_eq Less e = refl
is_le-from_eq Equal e = refl
is_le-from_eq Greater e = absurd (cc)

pub is_le-from_not_gt : (r : Ordering) → is_gt r ≡ false → is_le r ≡ true
is_le-from_not_gt Less e = refl
is_le-from_not_gt Equal e = refl
is_le-from_not_gt Greater e = absurd (cc)

pub not_gt-from_le : (r : Ordering) → is_le r ≡ true → is_gt r ≡ false
not_gt-from_le Less e = refl
not_gt-from_le Equal e = refl
not_gt-from_le Greater e = absurd (cc)

pub is_le-reverse_from_gt : (r : Ordering) → is_gt r ≡ true → is_le (ordering_reverse r) ≡ true
is_le-reverse_from_gt Less e = absurd (cc)
is_le-reverse_from_gt Equal e = absurd (cc)
is_le-reverse_from_gt Greater e = refl

pub is_gt-from_not_le : (r : Ordering) → (is_le r ≡ true → ⊥) → is_gt r ≡ true
is_gt-from_not_le Less none = absurd (none refl)
is_gt-from_not_le Equal none = absurd (none refl)
is_gt-from_not_le Greater none = refl

pub not_le-from_gt : (r : Ordering) → is_gt r ≡ true → is_le r ≡ true → ⊥
not_le-from_gt Less e h = cc
not_le-from_gt Equal e h = cc
not_le-from_gt Greater e h = cc

-- orders one after another
pub then_equal : (a b : Ordering) → ordering_then a b ≡ Equal → b ≡ Equal
then_equal Less b h = cc
then_equal Equal b h = h
then_equal Greater b h = cc

pub then_less : (a b : Ordering) → a ≡ Less → ordering_then a b ≡ Less
then_less Less b h = refl
then_less Equal b h = absurd (cc)
then_less Greater b h = absurd (cc)

pub is_le-from_then_less : (a b : Ordering) → ordering_then a b ≡ Less → is_le a ≡ true
is_le-from_then_less Less b h = refl
is_le-from_then_less Equal b h = refl
is_le-from_then_less Greater b h = absurd (cc)
