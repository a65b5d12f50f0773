use Rattle.std.proofs.Common.{inl, ◌≡◌, List, ◌∷◌, ◌++◌, refl, sym, subst, ◌∙◌}
use Rattle.lists.proofs.Members.{Member, Member-append_right}
use Rattle.resolver_model.specs.declared.node.Node.{Node}
use Rattle.search_core.proofs.splitting.children_of.Goals as goal

next_member : (yielded rest items all : List Node) (node : Node) (more : List Node) → yielded ++ rest ≡ items → items ≡ all → rest ≡ node ∷ more → Member node all
next_member yielded rest items all node more e f g =
    let M : List Node → Type 0 = λ xs. Member node xs in
    let A : List Node → Type 0 = λ xs. Member node (yielded ++ xs) in
    subst M (e ∙ f) (subst A (sym g) (Member-append_right node yielded (node ∷ more) (inl refl)))

pub child_of-requires-clause-larger : goal.child_of-requires-clause-larger
child_of-requires-clause-larger c = c.requires.nodes c.in-Some.node (next_member c.loop-node.yielded _ _ c.args.nodes.items c.in-Some.node _ c.loop-node.invariant.0 c.into_iter-node-iterator.ensures.into_iter_gives.0 c.in-Some.ensures.steps.0)

pub child_of-requires-clause-choices : goal.child_of-requires-clause-choices
child_of-requires-clause-choices c = c.requires.choices c.in-Some.node (next_member c.loop-node.yielded _ _ c.args.nodes.items c.in-Some.node _ c.loop-node.invariant.0 c.into_iter-node-iterator.ensures.into_iter_gives.0 c.in-Some.ensures.steps.0)
