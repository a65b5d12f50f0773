use Rattle.std.proofs.Common.{◌<◌, length, refl, arith}
use Rattle.cost_vector.proofs.Readings.{not_number_whole}
use Rattle.cost_vector.proofs.cost_spec.small_number.Goals as goal

pub returns-else-count-word : goal.returns-else-count-word
returns-else-count-word c =
    let shorter : c.number_at-count.result.0 < length c.args.word.now = omega (arith, c.if-count-word.false, c.number_at-count.ensures.within) in
    rw (not_number_whole c.args.word.now c.number_at-count.result.0 shorter (c.number_at-count.ensures.ends shorter)) refl
