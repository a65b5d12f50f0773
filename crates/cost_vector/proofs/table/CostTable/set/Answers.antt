use Rattle.std.proofs.Common.{rules, ◌≡◌, ◌*◌, ◌+◌, ◌<◌, length, ap, sym, ◌∙◌, arith}
use Rattle.std.specs.Vec.{vec_len}
use Rattle.resolver_model.specs.Costs.{Table}
use Rattle.cost_vector.proofs.Rows.{levels_of-set, length-levels_of, place_fits}
use Rattle.cost_vector.proofs.table.CostTable.set.Goals as goal

pub overflow_add-place : goal.overflow_add-place
overflow_add-place c =
    let of : length c.args.self.now.levels ≡ length c.self.inside.kinds.items = ap (λ (t : Table). length t.levels) (sym c.self.view_is) ∙ length-levels_of c.self.inside.choices c.self.inside.kinds.items c.self.inside.amounts.items in
    let choices : c.self.inside.choices ≡ c.args.self.now.choices = ap (λ (t : Table). t.choices) c.self.view_is in
    let count : vec_len c.self.inside.amounts ≡ length c.self.inside.amounts.items = search rules in
    let place : c.args.level * c.self.inside.choices + c.args.choice < length c.self.inside.amounts.items = place_fits c.self.inside.choices c.self.inside.kinds.items c.self.inside.amounts.items c.args.level c.args.choice c.self.invariant.whole (omega arith) (omega arith) in
    search rules

pub overflow_mul-place : goal.overflow_mul-place
overflow_mul-place c =
    let of : length c.args.self.now.levels ≡ length c.self.inside.kinds.items = ap (λ (t : Table). length t.levels) (sym c.self.view_is) ∙ length-levels_of c.self.inside.choices c.self.inside.kinds.items c.self.inside.amounts.items in
    let choices : c.self.inside.choices ≡ c.args.self.now.choices = ap (λ (t : Table). t.choices) c.self.view_is in
    let count : vec_len c.self.inside.amounts ≡ length c.self.inside.amounts.items = search rules in
    let place : c.args.level * c.self.inside.choices + c.args.choice < length c.self.inside.amounts.items = place_fits c.self.inside.choices c.self.inside.kinds.items c.self.inside.amounts.items c.args.level c.args.choice c.self.invariant.whole (omega arith) (omega arith) in
    search rules

pub index_mut-requires : goal.index_mut-requires
index_mut-requires c =
    let of : length c.args.self.now.levels ≡ length c.self.inside.kinds.items = ap (λ (t : Table). length t.levels) (sym c.self.view_is) ∙ length-levels_of c.self.inside.choices c.self.inside.kinds.items c.self.inside.amounts.items in
    let choices : c.self.inside.choices ≡ c.args.self.now.choices = ap (λ (t : Table). t.choices) c.self.view_is in
    let count : vec_len c.self.inside.amounts ≡ length c.self.inside.amounts.items = search rules in
    omega (arith, place_fits c.self.inside.choices c.self.inside.kinds.items c.self.inside.amounts.items c.args.level c.args.choice c.self.invariant.whole (omega (arith, c.requires.level)) (omega (arith, c.requires.choice)))

pub returns : goal.returns
returns c =
    let of : length c.args.self.now.levels ≡ length c.self.inside.kinds.items = ap (λ (t : Table). length t.levels) (sym c.self.view_is) ∙ length-levels_of c.self.inside.choices c.self.inside.kinds.items c.self.inside.amounts.items in
    let choices : c.self.inside.choices ≡ c.args.self.now.choices = ap (λ (t : Table). t.choices) c.self.view_is in
    rw (← c.self.view_is) (ap (λ levels. record { choices = c.self.inside.choices; levels = levels }) (levels_of-set c.self.inside.choices c.self.inside.kinds.items c.self.inside.amounts.items c.args.level c.args.choice c.args.amount (omega arith) (omega arith)))
