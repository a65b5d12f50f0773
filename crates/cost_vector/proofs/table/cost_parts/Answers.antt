use Rattle.std.proofs.Common.{rules, length, arith}
use Rattle.cost_vector.proofs.Rows.{next_cost, rows_left}
use Rattle.cost_vector.proofs.table.cost_parts.Goals as goal

pub loop-greatest-preserved : goal.loop-greatest-preserved
loop-greatest-preserved c =
    let left = rows_left c.args.choices c.args.kinds.now c.loop-greatest.greatest-index (length c.loop-greatest.rest.now) (omega arith) c.loop-greatest.invariant.rest in
    record {
      parts = next_cost _ _ _ c.loop-greatest.greatest-index c.loop-greatest.rest.now c.split_at.result.0.now _ _ _ _ c.level_cost.result (omega arith) c.loop-greatest.invariant.parts c.split_at.ensures.front c.split_at.ensures.back c.level_cost.ensures (search rules);
      rest = omega (arith, left.1, c.split_at.ensures.back_len);
    }
