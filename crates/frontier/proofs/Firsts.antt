-- What a pick says of the sets that can be answered: where the leaves cover all solutions and the lines are sound, a finished
-- leaf that is picked takes the first obtainable set, and where all leaves are shut no set is obtainable.
use Rattle.std.proofs.Common.{inl, inr, ◌≡◌, ℕ, suc, ◌+◌, List, [], ◌∷◌, ◌++◌, true, false, cond, refl, ap, sym, subst, ◌∙◌, arith, get_or}
use Rattle.std.specs.declared.cmp.Ordering.{Ordering}
use Rattle.std.specs.declared.cmp.Ordering.TheVariants.{Less, Equal, Greater}
use Rattle.std.specs.Ordering.{nat_cmp, is_gt, ordering_then}
use Rattle.std.specs.Cmp.Lexicographic.{slice_cmp}
use Rattle.std.proofs.lemmas.Bool.{and_parts, false_from_ne_true}
use Rattle.lists.proofs.Members.{list_all-Member}
use Rattle.lists.specs.Members.{Member}
use Rattle.lists.specs.Sets.{is_rising}
use Rattle.resolver_model.specs.declared.node.Node.{Node}
use Rattle.resolver_model.specs.Costs.{cost, cost_cmp, set_cmp, IsUpTo}
use Rattle.resolver_model.specs.First.{IsFirst, IsNoneLeft}
use Rattle.resolver_model.specs.Trees.{Leaf, is_shut}
use Rattle.resolver_model.proofs.BestFirst.{IsCovering, not_shut, IsFirst-finished}
use Rattle.resolver_model.proofs.SetOrder.{set_cmp-Equal}
use Rattle.frontier.specs.declared.picks.Pick.TheVariants as pick
use Rattle.frontier.specs.Slots.{is_split}
use Rattle.frontier.specs.Stores.{Store, Kept, no_kept, kept_at, leaves_from, situation, finished_cmp, IsPick}

-- ---- the node of a leaf

abbrev IsKeptAt : List Kept → ℕ → Leaf → Type 0
IsKeptAt kept base leaf = (i : ℕ) × (leaf.number ≡ base + i) × (leaf.node ≡ (get_or kept i no_kept).node)

one_on : (k : Kept) (kept : List Kept) (base : ℕ) (leaf : Leaf) → IsKeptAt kept (base + 1) leaf → IsKeptAt (k ∷ kept) base leaf
one_on k kept base leaf h = let e = h.1 in (suc h.0, omega (arith, e), h.2)

found_kept : (kept : List Kept) (base : ℕ) (leaf : Leaf) → Member leaf (leaves_from base kept) → IsKeptAt kept base leaf
found_kept [] base leaf m = absurd m
found_kept (k ∷ kept) base leaf m =
    elim (is_split k.hold) as (λ t. Member leaf (cond t [] (record { number = base; node = k.node } ∷ []) ++ leaves_from (base + 1) kept) → IsKeptAt (k ∷ kept) base leaf) [
      | true ↦ λ there. one_on k kept base leaf (found_kept kept (base + 1) leaf there)
      | false ↦ λ here. elim here as (λ _. IsKeptAt (k ∷ kept) base leaf) [
        | inl same ↦ let n : leaf.number ≡ base = ap (λ (l : Leaf). l.number) same in (0, omega (arith, n), ap (λ (l : Leaf). l.node) same)
        | inr there ↦ one_on k kept base leaf (found_kept kept (base + 1) leaf there)
      ]
    ] m

-- A leaf is the node with its number.
pub leaf_node : (st : Store) (leaf : Leaf) → Member leaf (leaves_from 0 st.kept) → leaf.node ≡ (kept_at st leaf.number).node
leaf_node st leaf m =
    let h = found_kept st.kept 0 leaf m in
    let e : h.0 ≡ leaf.number = let e' = h.1 in omega (arith, e') in
    h.2 ∙ ap (λ n. (kept_at st n).node) e

-- ---- the order of finished leaves is that of solutions

then_gt : (a b c : Ordering) → ordering_then a b ≡ Greater → ordering_then a (ordering_then b c) ≡ Greater
then_gt Less b c h = h
then_gt Equal Less c h = absurd (cc)
then_gt Equal Equal c h = absurd (cc)
then_gt Equal Greater c h = refl
then_gt Greater b c h = refl

pub IsUpTo-finished_cmp : (st : Store) (leaf other : Leaf) → is_gt (finished_cmp (situation st) leaf other) ≡ false → IsUpTo st.table leaf.node.taken other.node.taken
IsUpTo-finished_cmp st leaf other h =
    elim (set_cmp st.table leaf.node.taken other.node.taken) as (λ r. set_cmp st.table leaf.node.taken other.node.taken ≡ r → IsUpTo st.table leaf.node.taken other.node.taken) [
      | Less ↦ λ e. inr e
      | Equal ↦ λ e. inl (set_cmp-Equal st.table leaf.node.taken other.node.taken e)
      | Greater ↦ λ e.
          let g : finished_cmp (situation st) leaf other ≡ Greater = then_gt (cost_cmp (cost st.table leaf.node.taken) (cost st.table other.node.taken)) (slice_cmp nat_cmp leaf.node.taken other.node.taken) (nat_cmp leaf.number other.number) e in
          let t : true ≡ false = ap is_gt (sym g) ∙ h in
          absurd (cc)
    ] refl

-- ---- the two laws

-- What a finished leaf takes that is picked is the first set.
pub IsFirst-picked : (st : Store) (n : ℕ) → IsCovering (situation st) → IsPick st (pick.Finished n) → IsFirst st.problem st.table st.rules st.given (kept_at st n).node.taken
IsFirst-picked st n covering h =
    let leaf = h.1.leaf in
    let first = IsFirst-finished (situation st) covering leaf h.1.member h.1.own h.0 (λ other m done. IsUpTo-finished_cmp st leaf other (h.1.first other m done)) in
    let at : leaf.node ≡ (kept_at st n).node = leaf_node st leaf h.1.member ∙ ap (λ k. (kept_at st k).node) h.1.has_number in
    subst (λ (x : Node). IsFirst st.problem st.table st.rules st.given x.taken) at first

-- Where all leaves are shut, nothing is obtainable.
pub IsNoneLeft-picked : (st : Store) → IsCovering (situation st) → IsPick st pick.AllShut → IsNoneLeft st.problem st.table st.rules st.given
IsNoneLeft-picked st covering h set = false_from_ne_true _ (λ o.
    let solution = (and_parts _ _ (and_parts _ _ o).0).0 in
    let round = covering.cover set solution in
    let leaf = round.0 in
    let rises = (and_parts (is_rising leaf.node.taken) _ (covering.lists leaf round.1).0).0 in
    let live = not_shut (situation st) covering leaf.node set rises round.2 o in
    let shut = list_all-Member (λ (l : Leaf). is_shut (situation st) l.node) (leaves_from 0 st.kept) leaf h round.1 in
    let f : true ≡ false = sym shut ∙ live in
    cc)
