-- The tree of a legal history: its leaves are apart, their lists are in order, and every solution is within one of them.
use Rattle.std.proofs.Common.{inl, inr, ◌≡◌, ◌≢◌, ◌⊎◌, ◌<◌, ◌≤◌, ◌+◌, ℕ, List, [], ◌∷◌, true, false, cond, Some, refl, ap, sym, subst, ◌∙◌, arith, nat_eq, eqb-true, eq-eqb, ne_eqb, length}
use Rattle.std.specs.List.{find}
use Rattle.std.specs.Option.{unwrap_or, option_map}
use Rattle.lists.proofs.Members.{Member, Member-flat_map_from}
use Rattle.resolver_model.specs.declared.node.Node.{Node}
use Rattle.resolver_model.specs.declared.lines.Line.{Line}
use Rattle.resolver_model.specs.declared.history.By.{By}
use Rattle.resolver_model.specs.declared.history.By.TheVariants.{Dep, Choice}
use Rattle.resolver_model.specs.declared.history.Entry.{Entry}
use Rattle.resolver_model.specs.declared.history.Entry.TheVariants.{Say, Take, Put, Back}
use Rattle.resolver_model.specs.Problems.{Problem}
use Rattle.resolver_model.specs.Trees.{Leaf, Tree, root, is_within, split, numbered, node_of, split_leaf, tree_after, tree_at}
use Rattle.resolver_model.specs.Histories.{History}
use Rattle.resolver_model.specs.Answers.{Setting}
use Rattle.resolver_model.specs.Legal.{CanSplit, Follows, IsLegal}
use Rattle.resolver_model.proofs.Cover.{MaySplit, Covers-after}
use Rattle.laws_session.specs.Laws.{AreApart, IsNode, AreNodesApart, AreLeavesApart, IsTree, IsWithinOneLeaf}
use Rattle.laws_session.proofs.Lists.{AreApart-flat_map, apart_cases}
use Rattle.laws_session.proofs.Nodes.{IsInside, split_inside, split_apart, split_node}
use Rattle.laws_session.proofs.Longer.{legal_induction}
use Rattle.laws_session.proofs.Effects.{tree_at-more}

-- the numbers of new leaves
pub numbered_member : (n : ℕ) (nodes : List Node) (leaf : Leaf) → Member leaf (numbered n nodes) → (n ≤ leaf.number) × (leaf.number < n + length nodes) × Member leaf.node nodes
numbered_member n [] leaf m = absurd m
numbered_member n (node ∷ nodes) leaf m =
    elim m as (λ _. (n ≤ leaf.number) × (leaf.number < n + length (node ∷ nodes)) × Member leaf.node (node ∷ nodes)) [
      | inl e ↦ let same : leaf.number ≡ n = ap (λ (l : Leaf). l.number) e in (omega (arith, same), omega (arith, same), inl (ap (λ (l : Leaf). l.node) e))
      | inr k ↦ let more = numbered_member (n + 1) nodes leaf k in (omega (arith, more.0), omega (arith, more.1), inr more.2)
    ]

numbered_apart : (n : ℕ) (nodes : List Node) → AreApart AreNodesApart nodes → AreApart AreLeavesApart (numbered n nodes)
numbered_apart n [] a = tt
numbered_apart n (node ∷ nodes) a = (
  λ leaf m. let at = numbered_member (n + 1) nodes leaf m in let low : n + 1 ≤ leaf.number = at.0 in (λ e. absurd (omega (arith, e, low)), a.0 leaf.node at.2),
  numbered_apart (n + 1) nodes a.1,
)

-- the leaf with a number is found
pub found_leaf : (leaves : List Leaf) (leaf : Leaf) → AreApart AreLeavesApart leaves → Member leaf leaves → find (λ (l : Leaf). nat_eq l.number leaf.number) leaves ≡ Some leaf
found_leaf [] leaf a m = absurd m
found_leaf (l ∷ leaves) leaf a m =
    elim m as (λ _. cond (nat_eq l.number leaf.number) (Some l) (find (λ (x : Leaf). nat_eq x.number leaf.number) leaves) ≡ Some leaf) [
      | inl e ↦
          let same : nat_eq l.number leaf.number ≡ true = eq-eqb _ _ (ap (λ (x : Leaf). x.number) (sym e)) in
          rw same (ap Some (sym e))
      | inr k ↦
          let other : nat_eq l.number leaf.number ≡ false = ne_eqb _ _ (a.0 leaf k).0 in
          rw other (found_leaf leaves leaf a.1 k)
    ]

pub node_of-member : (tree : Tree) (leaf : Leaf) → AreApart AreLeavesApart tree.leaves → Member leaf tree.leaves → node_of tree leaf.number ≡ leaf.node
node_of-member tree leaf a m = ap (λ found. unwrap_or (option_map (λ (l : Leaf). l.node) found) root) (found_leaf tree.leaves leaf a m)

-- where a leaf after a split comes from
record IsFrom (p : Problem) (tree : Tree) (leaf : ℕ) (by : By) (old new : Leaf) : Type 0 where
  inside : IsInside new.node old.node
  numbers : ((old.number ≢ leaf) × (new ≡ old)) ⊎ ((old.number ≡ leaf) × (tree.next ≤ new.number) × (new.number < tree.next + length (split p old.node by)) × Member new.node (split p old.node by))

from_of : (p : Problem) (tree : Tree) (leaf : ℕ) (by : By) (old new : Leaf) → Member new (split_leaf p leaf by tree.next old) → IsFrom p tree leaf by old new
from_of p tree leaf by old new m =
    elim (nat_eq old.number leaf) as (λ r. nat_eq old.number leaf ≡ r → Member new (cond r (numbered tree.next (split p old.node by)) (old ∷ [])) → IsFrom p tree leaf by old new) [
      | true ↦ λ t k.
          let at = numbered_member tree.next (split p old.node by) new k in
          record { inside = split_inside p old.node by new.node at.2; numbers = inr (eqb-true _ _ t, at.0, at.1, at.2) }
      | false ↦ λ f k.
          elim k as (λ _. IsFrom p tree leaf by old new) [
            | inl e ↦ let P : Leaf → Type 0 = λ l. IsInside l.node old.node in record { inside = subst P (sym e) (λ set w. w); numbers = inl (λ same. let t : nat_eq old.number leaf ≡ true = eq-eqb _ _ same in let c : true ≡ false = sym t ∙ f in cc, e) }
            | inr nothing ↦ absurd nothing
          ]
    ] refl m

-- what two apart leaves become is apart
still_apart : (p : Problem) (tree : Tree) (leaf : ℕ) (by : By) (one other a b : Leaf) → one.number < tree.next → other.number < tree.next → AreLeavesApart one other → IsFrom p tree leaf by one a → IsFrom p tree leaf by other b → AreLeavesApart a b
still_apart p tree leaf by one other a b low lower apart f g = (
  λ e.
      elim f.numbers as (λ _. ⊥) [
        | inl x ↦
            let xe : a.number ≡ one.number = ap (λ (l : Leaf). l.number) x.1 in
            elim g.numbers as (λ _. ⊥) [
              | inl y ↦ let ye : b.number ≡ other.number = ap (λ (l : Leaf). l.number) y.1 in apart.0 (sym xe ∙ e ∙ ye)
              | inr y ↦ let high : tree.next ≤ b.number = y.1 in absurd (omega (arith, e, xe, high, low))
            ]
        | inr x ↦
            elim g.numbers as (λ _. ⊥) [
              | inl y ↦ let ye : b.number ≡ other.number = ap (λ (l : Leaf). l.number) y.1 in let high : tree.next ≤ a.number = x.1 in absurd (omega (arith, e, ye, high, lower))
              | inr y ↦ apart.0 (x.0 ∙ sym y.0)
            ]
      ],
  λ set w v. apart.1 set (f.inside set w) (g.inside set v),
)

-- what one leaf becomes is apart in itself
own_apart : (p : Problem) (tree : Tree) (leaf : ℕ) (by : By) (old : Leaf) → AreApart AreLeavesApart (split_leaf p leaf by tree.next old)
own_apart p tree leaf by old =
    elim (nat_eq old.number leaf) as (λ r. AreApart AreLeavesApart (cond r (numbered tree.next (split p old.node by)) (old ∷ []))) [
      | true ↦ numbered_apart tree.next (split p old.node by) (split_apart p old.node by)
      | false ↦ (λ x m. absurd m, tt)
    ]

-- a leaf that may be split may be split in the sense of the cover
may_from : (p : Problem) (node : Node) (by : By) → CanSplit p node by → MaySplit p node by
may_from p node (Dep d) can = (can.0, can.1)
may_from p node (Choice a) can = tt

-- A split keeps the tree in order.
pub IsTree-put : (p : Problem) (tree : Tree) (actor leaf : ℕ) (by : By) (learned : List Line) → IsTree p tree → CanSplit p (node_of tree leaf) by → IsTree p (tree_after p tree (Put actor leaf by learned))
IsTree-put p tree actor leaf by learned t can =
    let f : Leaf → List Leaf = split_leaf p leaf by tree.next in
    let node_is : (l : Leaf) → Member l tree.leaves → l.number ≡ leaf → node_of tree leaf ≡ l.node = λ l m e. ap (node_of tree) (sym e) ∙ node_of-member tree l t.apart m in
    let C : Node → Type 0 = λ n. CanSplit p n by in
    record {
      apart = AreApart-flat_map AreLeavesApart AreLeavesApart f tree.leaves (λ l m. own_apart p tree leaf by l)
          (λ one other a b m k apart am bm. still_apart p tree leaf by one other a b (t.below one m) (t.below other k) apart (from_of p tree leaf by one a am) (from_of p tree leaf by other b bm)) t.apart;
      below = λ new m.
          let from = Member-flat_map_from f tree.leaves new m in
          let is = from_of p tree leaf by from.0 new from.2 in
          elim is.numbers as (λ _. new.number < tree.next + length (split p (node_of tree leaf) by)) [
            | inl x ↦ let e : new.number ≡ from.0.number = ap (λ (l : Leaf). l.number) x.1 in let low : from.0.number < tree.next = t.below from.0 from.1 in omega (arith, e, low)
            | inr x ↦ let e : length (split p (node_of tree leaf) by) ≡ length (split p from.0.node by) = ap (λ n. length (split p n by)) (node_is from.0 from.1 x.0) in let low : new.number < tree.next + length (split p from.0.node by) = x.2 in omega (arith, e, low)
          ];
      lists = λ new m.
          let from = Member-flat_map_from f tree.leaves new m in
          let is = from_of p tree leaf by from.0 new from.2 in
          let P : Leaf → Type 0 = λ l. IsNode p l.node in
          elim is.numbers as (λ _. IsNode p new.node) [
            | inl x ↦ subst P (sym x.1) (t.lists from.0 from.1)
            | inr x ↦ split_node p from.0.node by (t.lists from.0 from.1) (subst C (node_is from.0 from.1 x.0) can) new.node x.3
          ];
      cover = Covers-after p tree actor leaf by learned (λ l m e. may_from p l.node by (subst C (node_is l m e) can)) t.cover;
    }

-- The first tree is in order.
pub IsTree-first : (p : Problem) → IsTree p (tree_at p [])
IsTree-first p = record {
  apart = (λ x m. absurd m, tt);
  below = λ leaf m.
      elim m as (λ _. leaf.number < 1) [ inl e ↦ let same : leaf.number ≡ 0 = ap (λ (l : Leaf). l.number) e in omega (arith, same) | inr nothing ↦ absurd nothing ];
  lists = λ leaf m.
      let P : Leaf → Type 0 = λ l. IsNode p l.node in
      elim m as (λ _. IsNode p leaf.node) [ inl e ↦ subst P (sym e) (record { taken = refl; barred = refl; disjoint = refl; consistent = refl }) | inr nothing ↦ absurd nothing ];
  cover = λ set solution. (record { number = 0; node = root }, inl refl, refl);
}

step_of : (s : Setting) (history : History) (entry : Entry) → Follows s history entry → IsTree s.problem (tree_at s.problem history) → IsTree s.problem (tree_after s.problem (tree_at s.problem history) entry)
step_of s history (Say actor command reply) next t = t
step_of s history (Take actor leaf) next t = t
step_of s history (Back actor leaf) next t = t
step_of s history (Put actor leaf by learned) next t = IsTree-put s.problem (tree_at s.problem history) actor leaf by learned t next.2

pub IsTree-legal : (s : Setting) (history : History) → IsLegal s history → IsTree s.problem (tree_at s.problem history)
IsTree-legal s history legal =
    legal_induction s (λ h. IsTree s.problem (tree_at s.problem h)) (IsTree-first s.problem)
    (λ before entry _ next t. let P : Tree → Type 0 = λ tree. IsTree s.problem tree in subst P (sym (tree_at-more s.problem before entry)) (step_of s before entry next t)) history legal

-- A solution is within one leaf alone.
pub one_leaf : (p : Problem) (tree : Tree) (set : List ℕ) (leaf other : Leaf) → IsTree p tree → Member leaf tree.leaves → Member other tree.leaves → is_within leaf.node set ≡ true → is_within other.node set ≡ true → leaf ≡ other
one_leaf p tree set leaf other t m k w v =
    elim (apart_cases AreLeavesApart tree.leaves leaf other t.apart m k) as (λ _. leaf ≡ other) [
      | inl e ↦ e
      | inr two ↦ elim two as (λ _. leaf ≡ other) [ inl x ↦ absurd (x.1 set w v) | inr x ↦ absurd (x.1 set v w) ]
    ]

-- A number is that of one leaf alone.
pub one_number : (p : Problem) (tree : Tree) (leaf other : Leaf) → IsTree p tree → Member leaf tree.leaves → Member other tree.leaves → leaf.number ≡ other.number → leaf ≡ other
one_number p tree leaf other t m k e =
    elim (apart_cases AreLeavesApart tree.leaves leaf other t.apart m k) as (λ _. leaf ≡ other) [
      | inl same ↦ same
      | inr two ↦ elim two as (λ _. leaf ≡ other) [ inl x ↦ absurd (x.0 e) | inr x ↦ absurd (x.0 (sym e)) ]
    ]

-- Every solution is within exactly one leaf.
pub IsWithinOneLeaf-tree : (p : Problem) (tree : Tree) → IsTree p tree → IsWithinOneLeaf p tree
IsWithinOneLeaf-tree p tree t set solution =
    let round = t.cover set solution in
    (round.0, round.1, round.2, λ other m w. one_leaf p tree set other round.0 t m round.1 w round.2)
