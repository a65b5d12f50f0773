use Rattle.std.proofs.Common.{◌≤◌, sym, subst, length}
use Rattle.resolver_model.specs.Problems.{version_count}
use Rattle.problem.specs.Indexes.{IndexRoom}
use Rattle.problem.proofs.Counting.{all_weaker}
use Rattle.problem.proofs.index_room.IndexRoom.count.Goals as goal

pub count_all-requires-clause-numbers : goal.count_all-requires-clause-numbers
count_all-requires-clause-numbers c =
    let P : IndexRoom → Type 0 = λ r. version_count c.args.parts.now ≤ length r.on.places in
    all_weaker (version_count c.args.parts.now) (length c.self.inside.on.places) c.args.targets.now (subst P (sym c.self.view_is) c.requires.lists.on) c.requires.targets
