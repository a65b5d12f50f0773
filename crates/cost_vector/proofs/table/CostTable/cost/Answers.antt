use Rattle.std.proofs.Common.{◌≡◌, ◌≤◌, length, arith, ap}
use Rattle.lists.proofs.Sets.{length-rising}
use Rattle.resolver_model.specs.Costs.{Table}
use Rattle.cost_vector.proofs.table.CostTable.cost.Goals as goal

pub cost_parts-requires-clause-few : goal.cost_parts-requires-clause-few
cost_parts-requires-clause-few c =
    let few : length c.args.set.now ≤ c.args.self.now.choices = length-rising c.args.self.now.choices c.args.set.now c.as_slice.ensures.rising c.requires in
    let same : c.self.inside.choices ≡ c.args.self.now.choices = ap (λ (t : Table). t.choices) c.self.view_is in
    omega (arith, few, same, c.self.invariant.few, ap length c.as_slice.ensures.items)
