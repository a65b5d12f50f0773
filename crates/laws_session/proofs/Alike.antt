-- The kinds of leaves do not depend on the order in which the leaves are listed.
use Rattle.std.proofs.Common.{◌≡◌, List, Bool, not, ◌&&◌, ◌||◌, ap, sym, ◌∙◌}
use Rattle.std.specs.List.{list_all, list_any}
use Rattle.std.specs.Ordering.{is_le}
use Rattle.std.specs.Cmp.{both_ways}
use Rattle.lists.proofs.Members.{list_any-from_Member, list_any-Member, list_all-from_Member, list_all-Member}
use Rattle.resolver_model.specs.declared.node.Node.{Node}
use Rattle.resolver_model.specs.Costs.{cost, cost_cmp}
use Rattle.resolver_model.specs.Trees.{Leaf, Situation, is_shut, is_finished, is_wanted, is_some_wanted, is_all_shut, key_of}
use Rattle.laws_session.specs.Laws.{HaveSameLeaves, with_leaves, IsLeastFinished}

same_all : (f : Leaf → Bool) (xs ys : List Leaf) → HaveSameLeaves xs ys → list_all f xs ≡ list_all f ys
same_all f xs ys same = both_ways (list_all f xs) (list_all f ys) (λ h. list_all-from_Member f ys (λ l m. list_all-Member f xs l h (same.back l m))) (λ h. list_all-from_Member f xs (λ l m. list_all-Member f ys l h (same.forth l m)))

same_any : (f : Leaf → Bool) (xs ys : List Leaf) → HaveSameLeaves xs ys → list_any f xs ≡ list_any f ys
same_any f xs ys same =
    both_ways (list_any f xs) (list_any f ys)
    (λ h. let l = list_any-Member f xs h in list_any-from_Member f ys l.0 (same.forth l.0 l.1) l.2)
    (λ h. let l = list_any-Member f ys h in list_any-from_Member f xs l.0 (same.back l.0 l.1) l.2)

pub is_wanted-alike : (s : Situation) (leaves : List Leaf) (node : Node) → HaveSameLeaves leaves s.leaves → is_wanted (with_leaves s leaves) node ≡ is_wanted s node
is_wanted-alike s leaves node same =
    ap (λ b. not (is_shut s node) && not (is_finished s node) && b) (same_all (λ other. not (is_finished s other.node) || is_le (cost_cmp (key_of s node) (cost s.table other.node.taken))) leaves s.leaves same)

pub is_all_shut-alike : (s : Situation) (leaves : List Leaf) → HaveSameLeaves leaves s.leaves → is_all_shut (with_leaves s leaves) ≡ is_all_shut s
is_all_shut-alike s leaves same = same_all (λ leaf. is_shut s leaf.node) leaves s.leaves same

pub is_some_wanted-alike : (s : Situation) (leaves : List Leaf) → HaveSameLeaves leaves s.leaves → is_some_wanted (with_leaves s leaves) ≡ is_some_wanted s
is_some_wanted-alike s leaves same =
    let now = with_leaves s leaves in
    both_ways (is_some_wanted now) (is_some_wanted s)
    (λ h. let l = list_any-Member (λ (leaf : Leaf). is_wanted now leaf.node) leaves h in list_any-from_Member (λ (leaf : Leaf). is_wanted s leaf.node) s.leaves l.0 (same.forth l.0 l.1) (sym (is_wanted-alike s leaves l.0.node same) ∙ l.2))
    (λ h. let l = list_any-Member (λ (leaf : Leaf). is_wanted s leaf.node) s.leaves h in list_any-from_Member (λ (leaf : Leaf). is_wanted now leaf.node) leaves l.0 (same.back l.0 l.1) (is_wanted-alike s leaves l.0.node same ∙ l.2))

pub IsLeastFinished-alike : (s : Situation) (leaves : List Leaf) (leaf : Leaf) → HaveSameLeaves leaves s.leaves → IsLeastFinished (with_leaves s leaves) leaf → IsLeastFinished s leaf
IsLeastFinished-alike s leaves leaf same h = record { member = same.forth leaf h.member; finished = h.finished; least = λ other m done. h.least other (same.back other m) done }
