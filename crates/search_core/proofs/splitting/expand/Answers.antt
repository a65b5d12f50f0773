use Rattle.std.proofs.Common.{List, sym, subst}
use Rattle.resolver_model.specs.declared.node.Node.{Node}
use Rattle.resolver_model.specs.declared.history.By.{By}
use Rattle.resolver_model.specs.Trees.{split}
use Rattle.search_core.specs.Ways.{AreUpToOneMore, AreWithin}
use Rattle.search_core.proofs.Known.{IsWithin-node, AreWithin-split}
use Rattle.search_core.proofs.Opens.{split_takes_one}
use Rattle.search_core.proofs.splitting.expand.Goals as goal

pub cost-requires : goal.cost-requires
cost-requires c = IsWithin-node c.args.basis.now.problem c.args.basis.now.table.choices c.args.job.now.node c.args.basis.now.fits c.requires.lists

pub children_of-requires-clause-set : goal.children_of-requires-clause-set
children_of-requires-clause-set c = IsWithin-node c.args.basis.now.problem c.args.basis.now.table.choices c.args.job.now.node c.args.basis.now.fits c.requires.lists

pub children_of-requires-clause-nodes : goal.children_of-requires-clause-nodes
children_of-requires-clause-nodes c =
    let node = c.args.job.now.node in
    let A : List Node → Type 0 = λ nodes. AreUpToOneMore node.taken nodes in
    subst A (sym c.in_ok-nodes.ensures) (split_takes_one c.args.basis.now.problem node c.way-by.result)

pub children_of-requires-clause-choices : goal.children_of-requires-clause-choices
children_of-requires-clause-choices c =
    let p = c.args.basis.now.problem in
    let choices = c.args.basis.now.table.choices in
    let job = c.args.job.now in
    let by = c.way-by.ensures p job.node c.in_ok-list.ensures in
    let W : List Node → Type 0 = λ nodes. AreWithin choices nodes in
    let B : By → Type 0 = λ b. W (split p job.node b) in
    subst W (sym c.in_ok-nodes.ensures) (subst B (sym by) (AreWithin-split p choices job c.args.basis.now.fits c.requires))
