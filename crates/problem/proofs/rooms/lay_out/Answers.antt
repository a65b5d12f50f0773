use Rattle.std.proofs.Common.{rules, ◌<◌, ◌+◌, arith, length}
use Rattle.problem.proofs.Laying.{laid_more, laid_sum, room_fits}
use Rattle.problem.proofs.rooms.lay_out.Goals as goal

pub overflow_add-end : goal.overflow_add-end
overflow_add-end c =
    let rooms = c.args.spans.now.items in
    let lt : c.loop-number.number < length rooms = search rules in
    let sum_is = laid_sum rooms c.loop-number.spans.items c.loop-number.number c.loop-number.end c.index.result.now lt c.loop-number.invariant c.index.ensures in
    omega (arith, sum_is, room_fits rooms (c.loop-number.number + 1), c.requires)

pub loop-number-preserved : goal.loop-number-preserved
loop-number-preserved c =
    let rooms = c.args.spans.now.items in
    let lt : c.loop-number.number < length rooms = search rules in
    laid_more rooms c.loop-number.spans.items c.loop-number.number c.loop-number.end c.index.result.now lt c.loop-number.invariant c.index.ensures
