-- The order of keys: it is a total preorder, and a turn of a part is compared at its front.
use Rattle.std.proofs.Common.{◌≡◌, ℕ, zero, suc, ◌+◌, ◌≤◌, List, [], ◌∷◌, true, false, length, refl, ap, sym, ◌∙◌, arith}
use Rattle.std.specs.Prelude.{ℤ, pos}
use Rattle.std.specs.declared.cmp.Ordering.{Ordering}
use Rattle.std.specs.declared.cmp.Ordering.TheVariants.{Less, Equal, Greater}
use Rattle.std.specs.Ordering.{nat_cmp, int_cmp, ordering_then, ordering_reverse, is_le, is_ne, then_cmp, on}
use Rattle.std.specs.Cmp.{IsTotalOrder, int_cmp_total, nat_cmp_total, on_total, then_total, alike_right}
use Rattle.deb_version.specs.Versions.{Parts}
use Rattle.deb_version.proofs.Turns.{revisions, second_settles}
use Rattle.deb_version.specs.VersionOrder.{number, key, key_order, part_order, revision_or_zero, version_order, IsTotalPreorder}

-- ---- the order of keys is total

head : List ℤ → ℤ
head [] = pos 0
head (x ∷ xs) = x

tail : List ℤ → List ℤ
tail [] = []
tail (x ∷ xs) = xs

-- the first n places of two keys
places : ℕ → List ℤ → List ℤ → Ordering
places zero = λ xs ys. Equal
places (suc n) = then_cmp (on head int_cmp) (on tail (places n))

places-total : (n : ℕ) → IsTotalOrder (places n)
unfolding places
places-total zero = record { antisymm = λ xs ys. refl; trans = λ xs ys zs p q. p; congr = λ xs ys zs p. refl }
places-total (suc n) = then_total (on_total head int_cmp_total) (on_total tail (places-total n))

key_order-places : (n : ℕ) (xs ys : List ℤ) → length xs ≤ n → length ys ≤ n → key_order xs ys ≡ places n xs ys
unfolding places head tail
key_order-places zero [] [] p q = refl
key_order-places zero [] (y ∷ ys) p q = absurd (omega arith)
key_order-places zero (x ∷ xs) ys p q = absurd (omega arith)
key_order-places (suc n) [] [] p q = key_order-places n [] [] (omega arith) (omega arith)
key_order-places (suc n) [] (y ∷ ys) p q = ap (ordering_then (int_cmp (pos 0) y)) (key_order-places n [] ys (omega arith) (omega arith))
key_order-places (suc n) (x ∷ xs) [] p q = ap (ordering_then (int_cmp x (pos 0))) (key_order-places n xs [] (omega arith) (omega arith))
key_order-places (suc n) (x ∷ xs) (y ∷ ys) p q = ap (ordering_then (int_cmp x y)) (key_order-places n xs ys (omega arith) (omega arith))

key_order-total : IsTotalOrder key_order
key_order-total = record {
  antisymm = λ xs ys.
      let n : ℕ = length xs + length ys in
      key_order-places n xs ys (omega arith) (omega arith) ∙ (places-total n).antisymm xs ys ∙ ap ordering_reverse (sym (key_order-places n ys xs (omega arith) (omega arith)));
  trans = λ xs ys zs p q.
      let n : ℕ = length xs + length ys + length zs in
      key_order-places n xs zs (omega arith) (omega arith)
      ∙ (places-total n).trans xs ys zs (sym (key_order-places n xs ys (omega arith) (omega arith)) ∙ p) (sym (key_order-places n ys zs (omega arith) (omega arith)) ∙ q);
  congr = λ xs ys zs p.
      let n : ℕ = length xs + length ys + length zs in
      key_order-places n xs zs (omega arith) (omega arith)
      ∙ (places-total n).congr xs ys zs (sym (key_order-places n xs ys (omega arith) (omega arith)) ∙ p)
      ∙ sym (key_order-places n ys zs (omega arith) (omega arith));
}

version_order-total : IsTotalOrder version_order
version_order-total =
    then_total (on_total (λ (v : Parts). number v.epoch) nat_cmp_total)
    (then_total (on_total (λ (v : Parts). key v.upstream) key_order-total) (on_total (λ (v : Parts). key (revision_or_zero v.revision)) key_order-total))

-- a total order in the words of the definitions
itself : (r : Ordering) → r ≡ ordering_reverse r → r ≡ Equal
itself Less e = absurd (cc)
itself Equal e = refl
itself Greater e = absurd (cc)

chained : {K : Type 0} (R : K → K → Ordering) → IsTotalOrder R → (x y z : K) (r s : Ordering) → R x y ≡ r → R y z ≡ s → is_le r ≡ true → is_le s ≡ true → is_le (R x z) ≡ true
chained R o x y z Less Less p q h k = ap is_le (o.trans x y z p q)
chained R o x y z Less Equal p q h k = ap is_le (sym (alike_right o y z x q) ∙ p)
chained R o x y z Equal s p q h k = ap is_le (o.congr x y z p ∙ q) ∙ k
chained R o x y z Less Greater p q h k = absurd (cc)
chained R o x y z Greater s p q h k = absurd (cc)

pub version_order-preorder : IsTotalPreorder version_order
version_order-preorder =
    let o = version_order-total in
    record {
      reflexive = λ x. itself (version_order x x) (o.antisymm x x);
      transitive = λ x y z h k. chained version_order o x y z (version_order x y) (version_order y z) refl refl h k;
      total = λ x y. o.antisymm x y;
    }

-- versions whose epochs and upstream versions do not differ are compared by their revisions
pub by_revision : (a b : Parts) → is_ne (nat_cmp (number a.epoch) (number b.epoch)) ≡ false → is_ne (part_order a.upstream b.upstream) ≡ false → part_order a.revision b.revision ≡ version_order a b
by_revision a b h k =
    let last : Ordering = part_order (revision_or_zero a.revision) (revision_or_zero b.revision) in
    sym (revisions a.revision b.revision)
    ∙ sym (second_settles (part_order a.upstream b.upstream) last k)
    ∙ sym (second_settles (nat_cmp (number a.epoch) (number b.epoch)) (ordering_then (part_order a.upstream b.upstream) last) h)
