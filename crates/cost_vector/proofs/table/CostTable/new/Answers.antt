use Rattle.std.proofs.Common.{rules, ◌≡◌, ◌*◌, length, ap, replicate}
use Rattle.cost_vector.proofs.Rows.{levels_of-replicate}
use Rattle.cost_vector.proofs.table.CostTable.new.Goals as goal

pub returns : goal.returns
returns c =
    let kinds : c.in_ok-kinds.kinds.items ≡ c.args.greatest.now = search rules in
    let count : c.in-Some.count ≡ length c.args.greatest.now * c.args.choices = search rules in
    let amounts : c.in_ok-amounts.amounts.items ≡ replicate c.in-Some.count 0 = search rules in
    rw (kinds, amounts) (ap (λ levels. record { choices = c.args.choices; levels = levels }) (levels_of-replicate c.args.choices c.args.greatest.now c.in-Some.count count))
