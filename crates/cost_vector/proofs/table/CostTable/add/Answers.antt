use Rattle.std.proofs.Common.{rules, ◌≡◌, ◌∙◌, length, arith, ap, sym}
use Rattle.resolver_model.specs.Costs.{Table}
use Rattle.cost_vector.specs.Additions.{cost_with}
use Rattle.cost_vector.proofs.Rows.{length-levels_of}
use Rattle.cost_vector.proofs.Additions.{cost_with-cost, parts_with-greater}
use Rattle.cost_vector.proofs.table.CostTable.add.Goals as goal

pub parts_with-requires-clause-length : goal.parts_with-requires-clause-length
parts_with-requires-clause-length c =
    let count : length c.args.self.now.levels ≡ length c.self.inside.kinds.items = sym (ap (λ (t : Table). length t.levels) c.self.view_is) ∙ length-levels_of c.self.inside.choices c.self.inside.kinds.items c.self.inside.amounts.items in
    omega (arith, ap length c.parts.ensures, ap length c.deref.ensures.value, c.requires.length, count)

pub returns-clause-of_set : goal.returns-clause-of_set
returns-clause-of_set c = λ set apart same.
    let value : c.from_vec.result ≡ cost_with c.args.self.now c.args.cost.now c.args.choice = search rules in
    value ∙ ap (λ parts. cost_with c.args.self.now parts c.args.choice) same ∙ cost_with-cost c.args.self.now set c.args.choice apart

pub returns-clause-greater : goal.returns-clause-greater
returns-clause-greater c =
    let value : c.from_vec.result ≡ cost_with c.args.self.now c.args.cost.now c.args.choice = search rules in
    rw value (parts_with-greater c.args.self.now.levels c.args.cost.now c.args.choice c.requires.length)
