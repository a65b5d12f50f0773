-- One carrier of each number serves for the bounds of a side.
use Rattle.std.proofs.Common.{◌≡◌, ℕ, ◌∙◌, sym, ap, refl, List, [], ◌∷◌, ◌++◌, Bool, true, false, ◌||◌, nat_eq}
use Rattle.std.specs.Cmp.{IsTotalOrder}
use Rattle.std.specs.List.Sorted.{IsPermutation}
use Rattle.std.specs.Ordering.{is_ge, is_le, ordering_reverse}
use Rattle.std.specs.declared.cmp.Ordering.{Ordering}
use Rattle.std.specs.declared.cmp.Ordering.TheVariants.{Less, Equal, Greater}
use Rattle.std.proofs.lemmas.Bool.{and_from, and_parts}
use Rattle.std.proofs.lemmas.List.Folds.{list_any-append}
use Rattle.deb_version.specs.Versions.{Parts}
use Rattle.deb_version.specs.VersionOrder.{version_order}
use Rattle.deb_version.proofs.Keys.{version_order-preorder}
use Rattle.dep_fields.specs.Operators.{holds}
use Rattle.dep_fields.specs.Relationships.{VersionBound}
use Rattle.dep_fields.specs.declared.Op.{Op}
use Rattle.dep_fields.specs.declared.Op.TheVariants as op
use Rattle.universe_model.proofs.Orders.{order-total}
use Rattle.meeting_index.specs.Fitting.{Covers, Serves, carried_parts, either, fits_as, has_fitting}
use Rattle.meeting_index.specs.declared.carried.Carried.{Carried}
use Rattle.meeting_index.specs.declared.sides.Side.{Side}
use Rattle.meeting_index.specs.declared.sides.Side.TheVariants as side
use Rattle.meeting_index.proofs.CrowdLaws.{fitting-moved, or-none}

-- no operator is met on both sides
no-both : (o : Op) → holds o Less ≡ true → holds o Greater ≡ true → ⊥
no-both op.Less l g = cc
no-both op.AtMost l g = cc
no-both op.Equal l g = cc
no-both op.AtLeast l g = cc
no-both op.More l g = cc

total : IsTotalOrder version_order
total = order-total version_order version_order-preorder

-- ---- a version at least as late meets what a version meets, where the bound is met by all that are late enough

up-cases : (o : Op) (x y b : Parts) (xy yb : Ordering) → version_order x y ≡ xy → version_order y b ≡ yb → is_le xy ≡ true → holds o Greater ≡ true
    → holds o (version_order x b) ≡ true → holds o yb ≡ true
up-cases o x y b Greater yb p q le reach h = absurd (cc)
up-cases o x y b Equal yb p q le reach h = ap (holds o) (sym (total.congr x y b p ∙ q)) ∙ h
up-cases o x y b Less Greater p q le reach h = reach
up-cases o x y b Less Less p q le reach h = absurd (no-both o (ap (holds o) (sym (total.trans x y b p q)) ∙ h) reach)
up-cases o x y b Less Equal p q le reach h =
    let back : version_order b x ≡ Greater = sym (total.congr y b x q) ∙ total.antisymm y x ∙ ap ordering_reverse p in
    absurd (no-both o (ap (holds o) (sym (total.antisymm x b ∙ ap ordering_reverse back)) ∙ h) reach)

pub up : (o : Op) (x y b : Parts) → is_le (version_order x y) ≡ true → holds o Greater ≡ true → holds o (version_order x b) ≡ true → holds o (version_order y b) ≡ true
up o x y b le reach h = up-cases o x y b (version_order x y) (version_order y b) refl refl le reach h

down-cases : (o : Op) (x y b : Parts) (xy yb : Ordering) → version_order x y ≡ xy → version_order y b ≡ yb → is_ge xy ≡ true → holds o Less ≡ true
    → holds o (version_order x b) ≡ true → holds o yb ≡ true
down-cases o x y b Less yb p q ge reach h = absurd (cc)
down-cases o x y b Equal yb p q ge reach h = ap (holds o) (sym (total.congr x y b p ∙ q)) ∙ h
down-cases o x y b Greater Less p q ge reach h = reach
down-cases o x y b Greater Greater p q ge reach h =
    let first : version_order b y ≡ Less = total.antisymm b y ∙ ap ordering_reverse q in
    let then : version_order y x ≡ Less = total.antisymm y x ∙ ap ordering_reverse p in
    let far : version_order x b ≡ Greater = total.antisymm x b ∙ ap ordering_reverse (total.trans b y x first then) in
    absurd (no-both o reach (ap (holds o) (sym far) ∙ h))
down-cases o x y b Greater Equal p q ge reach h =
    let then : version_order y x ≡ Less = total.antisymm y x ∙ ap ordering_reverse p in
    let far : version_order x b ≡ Greater = total.antisymm x b ∙ ap ordering_reverse (sym (total.congr y b x q) ∙ then) in
    absurd (no-both o reach (ap (holds o) (sym far) ∙ h))

pub down : (o : Op) (x y b : Parts) → is_ge (version_order x y) ≡ true → holds o Less ≡ true → holds o (version_order x b) ≡ true → holds o (version_order y b) ≡ true
down o x y b ge reach h = down-cases o x y b (version_order x y) (version_order y b) refl refl ge reach h

pub greatest-covers : (y x : Carried) → y.number ≡ x.number → is_le (version_order (carried_parts x) (carried_parts y)) ≡ true → Covers side.Greatest y x
greatest-covers y x same le = λ bound c reach h.
    let parts = and_parts (holds bound.op (version_order (carried_parts x) bound.parts)) (nat_eq x.number c) h in
    and_from (holds bound.op (version_order (carried_parts y) bound.parts)) (nat_eq y.number c)
    (up bound.op (carried_parts x) (carried_parts y) bound.parts le reach parts.0) (ap (λ n. nat_eq n c) same ∙ parts.1)

pub least-covers : (y x : Carried) → y.number ≡ x.number → is_ge (version_order (carried_parts x) (carried_parts y)) ≡ true → Covers side.Least y x
least-covers y x same ge = λ bound c reach h.
    let parts = and_parts (holds bound.op (version_order (carried_parts x) bound.parts)) (nat_eq x.number c) h in
    and_from (holds bound.op (version_order (carried_parts y) bound.parts)) (nat_eq y.number c)
    (down bound.op (carried_parts x) (carried_parts y) bound.parts ge reach parts.0) (ap (λ n. nat_eq n c) same ∙ parts.1)

-- ---- lists of carriers

-- the next one covers the last one
pub covered : (k l n : Bool) → (l ≡ true → n ≡ true) → (k || n) ≡ ((k || l) || n)
covered true l n h = refl
covered false true n h = h refl
covered false false n h = refl

-- one more at the end
pub fitting-end : (ys : List Carried) (y : Carried) (bound : VersionBound) (c : ℕ) → has_fitting (ys ++ y ∷ []) bound c ≡ (has_fitting ys bound c || fits_as bound c y)
fitting-end ys y bound c =
    list_any-append (fits_as bound c) ys (y ∷ []) ∙ ap (λ b. has_fitting ys bound c || b) (or-none (fits_as bound c y))

-- some serve where they are there
pub serves-either : (s : Side) (all kept : List Carried) → Serves s all kept → Serves s all (either kept all)
serves-either s all [] serves = λ bound c reach. refl
serves-either s all (x ∷ xs) serves = serves

pub serves-moved : (s : Side) (all moved kept : List Carried) → IsPermutation all moved → Serves s moved (either kept moved) → Serves s all (either kept all)
serves-moved s all moved [] p serves = λ bound c reach. refl
serves-moved s all moved (x ∷ xs) p serves = λ bound c reach. serves bound c reach ∙ fitting-moved all moved p bound c
