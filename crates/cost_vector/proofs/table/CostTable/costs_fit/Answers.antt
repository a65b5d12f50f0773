use Rattle.std.proofs.Common.{◌<◌, ◌^◌, ℕ, get_or}
use Rattle.cost_vector.proofs.Additions.{fits-cost, fits-cost_with}
use Rattle.cost_vector.proofs.table.CostTable.costs_fit.Goals as goal

pub returns-clause-sets : goal.returns-clause-sets
returns-clause-sets c =
    let small : (i : ℕ) → get_or c.self.inside.amounts.items i 0 < 2 ^ 32 = λ i. rw (← c.deref.ensures.value) (c.amounts_fit.ensures i) in
    fits-cost c.self.inside.choices c.self.inside.kinds.items c.self.inside.amounts.items c.args.self.now c.self.view_is c.self.invariant.few small

pub returns-clause-additions : goal.returns-clause-additions
returns-clause-additions c =
    let small : (i : ℕ) → get_or c.self.inside.amounts.items i 0 < 2 ^ 32 = λ i. rw (← c.deref.ensures.value) (c.amounts_fit.ensures i) in
    fits-cost_with c.args.self.now (fits-cost c.self.inside.choices c.self.inside.kinds.items c.self.inside.amounts.items c.args.self.now c.self.view_is c.self.invariant.few small)
