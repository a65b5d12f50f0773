-- No two leaves take the same list.
use Rattle.std.proofs.Common.{◌≡◌, true, ap, ◌∙◌}
use Rattle.std.proofs.lemmas.Bool.{and_from}
use Rattle.lists.proofs.Sets.{is_disjoint-sym, is_subset-refl}
use Rattle.lists.specs.Sets.{is_subset}
use Rattle.resolver_model.specs.Problems.{Problem}
use Rattle.resolver_model.specs.Trees.{Tree, is_within}
use Rattle.laws_session.specs.Laws.{IsTree, AreTakenOnce}
use Rattle.laws_session.proofs.Grown.{one_leaf}

-- a leaf's taken list is within it, so two leaves with the same list are one
pub AreTakenOnce-tree : (p : Problem) (tree : Tree) → IsTree p tree → AreTakenOnce tree
AreTakenOnce-tree p tree t leaf other m k same =
    let n = t.lists leaf m in
    let o = t.lists other k in
    let own : is_within leaf.node leaf.node.taken ≡ true = and_from (is_subset leaf.node.taken leaf.node.taken) _ (is_subset-refl leaf.node.taken) (is_disjoint-sym leaf.node.taken leaf.node.barred n.disjoint) in
    let theirs : is_within other.node other.node.taken ≡ true = and_from (is_subset other.node.taken other.node.taken) _ (is_subset-refl other.node.taken) (is_disjoint-sym other.node.taken other.node.barred o.disjoint) in
    one_leaf p tree leaf.node.taken leaf other t m k own (ap (is_within other.node) same ∙ theirs)
