use Rattle.std.proofs.Common.{rules, ◌≡◌, length, ap, sym, ◌∙◌}
use Rattle.resolver_model.specs.Costs.{Table}
use Rattle.cost_vector.proofs.Rows.{length-levels_of}
use Rattle.cost_vector.proofs.table.CostTable.levels.Goals as goal

pub returns : goal.returns
returns c =
    let count : c.len.result ≡ length c.self.inside.kinds.items = search rules in
    count ∙ sym (length-levels_of c.self.inside.choices c.self.inside.kinds.items c.self.inside.amounts.items) ∙ ap (λ (t : Table). length t.levels) c.self.view_is
