use Rattle.resolver_model.proofs.Choosing.{choice_set_below}
use Rattle.dialogue.proofs.replies.solution_of.Goals as goal

pub cost-requires : goal.cost-requires
cost-requires c =
    let basis = c.args.basis.now in
    choice_set_below basis.problem basis.table.choices c.args.set.now basis.fits c.requires.set
