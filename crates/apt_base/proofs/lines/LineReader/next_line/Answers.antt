use Rattle.std.proofs.Common.{arith, true, false}
use Rattle.apt_base.proofs.Inputs.{as_answered, part_moved, part_more, found_line, short_line, long_line, last_line, part_budget, part_lazy, part_held, found_held}
use Rattle.apt_base.proofs.lines.LineReader.next_line.Goals as goal

pub returns-then-branch-clause-length : goal.returns-then-branch-clause-length
returns-then-branch-clause-length g c =
    let move = as_answered _ true _ _ _ _ c.if-branch.true c.in_ok-take_part.ensures in
    short_line _ _ _ _ _ _ _ _ c.loop-line.invariant move c.drop_return.ensures

pub returns-then-branch-clause-input : goal.returns-then-branch-clause-input
returns-then-branch-clause-input g c =
    let move = as_answered _ true _ _ _ _ c.if-branch.true c.in_ok-take_part.ensures in
    rw c.drop_return.ensures (found_line _ _ _ _ _ _ _ c.loop-line.invariant move)

pub returns-then-branch-clause-budget : goal.returns-then-branch-clause-budget
returns-then-branch-clause-budget g c = part_budget _ _ _ _ _ c.loop-line.invariant

pub returns-in_err-take_part-clause-budget : goal.returns-in_err-take_part-clause-budget
returns-in_err-take_part-clause-budget g c = part_budget _ _ _ _ _ c.loop-line.invariant

pub returns-then-len-gt-MOST_LINE_BYTES-clause-input :
    goal.returns-then-len-gt-MOST_LINE_BYTES-clause-input
returns-then-len-gt-MOST_LINE_BYTES-clause-input g c =
    let move = as_answered _ false _ _ _ _ c.if-branch.false c.in_ok-take_part.ensures in
    let part = part_moved _ _ _ _ _ _ _ c.loop-line.invariant move in
    long_line _ _ _ _ _ _ part move.1 (omega (arith, c.take_part.new.line.ok.0))

pub returns-then-branch-eq0-clause-input : goal.returns-then-branch-eq0-clause-input
returns-then-branch-eq0-clause-input g c =
    let move = as_answered _ false _ _ _ _ c.if-branch.false c.in_ok-take_part.ensures in
    let part = part_moved _ _ _ _ _ _ _ c.loop-line.invariant move in
    let f = c.in_ok-fill.ensures in
    let more = part_more _ _ _ _ _ _ _ part move.1 f.sure f.cause.later f.taken (omega (arith, f.within, c.take_part.new.line.ok.0)) in
    last_line _ _ _ _ _ _ _ more (omega (arith, f.count.0, c.if-branch-eq0.true)) (f.count.1 c.if-branch-eq0.true) (omega (arith, c.take_part.new.line.ok.0)) c.is_empty.ensures (omega (arith, c.take_part.new.line.ok.0))

pub loop-line-preserved : goal.loop-line-preserved
loop-line-preserved g c =
    let move = as_answered _ false _ _ _ _ c.if-branch.false c.in_ok-take_part.ensures in
    let part = part_moved _ _ _ _ _ _ _ c.loop-line.invariant move in
    let f = c.in_ok-fill.ensures in
    part_more _ _ _ _ _ _ _ part move.1 f.sure f.cause.later f.taken (omega (arith, f.within, c.take_part.new.line.ok.0))

pub returns-in_err-fill-clause-budget : goal.returns-in_err-fill-clause-budget
returns-in_err-fill-clause-budget g c =
    let move = as_answered _ false _ _ _ _ c.if-branch.false c.in_ok-take_part.ensures in
    let part = part_moved _ _ _ _ _ _ _ c.loop-line.invariant move in
    let f = c.in_err-fill.ensures in
    part_budget _ _ _ _ _ (part_more _ _ _ _ _ _ _ part move.1 f.sure f.cause.later f.taken (omega (arith, f.within, c.take_part.new.line.ok.0)))

pub returns-then-branch-clause-held : goal.returns-then-branch-clause-held
returns-then-branch-clause-held g c =
    let move = as_answered _ true _ _ _ _ c.if-branch.true c.in_ok-take_part.ensures in
    found_held _ _ _ _ _ _ _ c.loop-line.invariant move

pub returns-then-branch-clause-lazy : goal.returns-then-branch-clause-lazy
returns-then-branch-clause-lazy g c = part_lazy _ _ _ _ _ c.loop-line.invariant

pub returns-in_err-take_part-clause-lazy : goal.returns-in_err-take_part-clause-lazy
returns-in_err-take_part-clause-lazy g c = part_lazy _ _ _ _ _ c.loop-line.invariant

pub returns-then-len-gt-MOST_LINE_BYTES-clause-budget :
    goal.returns-then-len-gt-MOST_LINE_BYTES-clause-budget
returns-then-len-gt-MOST_LINE_BYTES-clause-budget g c =
    let move = as_answered _ false _ _ _ _ c.if-branch.false c.in_ok-take_part.ensures in
    part_budget _ _ _ _ _ (part_moved _ _ _ _ _ _ _ c.loop-line.invariant move)

pub returns-then-len-gt-MOST_LINE_BYTES-clause-lazy :
    goal.returns-then-len-gt-MOST_LINE_BYTES-clause-lazy
returns-then-len-gt-MOST_LINE_BYTES-clause-lazy g c =
    let move = as_answered _ false _ _ _ _ c.if-branch.false c.in_ok-take_part.ensures in
    part_lazy _ _ _ _ _ (part_moved _ _ _ _ _ _ _ c.loop-line.invariant move)

pub returns-then-branch-eq0-clause-budget : goal.returns-then-branch-eq0-clause-budget
returns-then-branch-eq0-clause-budget g c =
    let move = as_answered _ false _ _ _ _ c.if-branch.false c.in_ok-take_part.ensures in
    let part = part_moved _ _ _ _ _ _ _ c.loop-line.invariant move in
    let f = c.in_ok-fill.ensures in
    part_budget _ _ _ _ _ (part_more _ _ _ _ _ _ _ part move.1 f.sure f.cause.later f.taken (omega (arith, f.within, c.take_part.new.line.ok.0)))

pub returns-then-branch-eq0-clause-held : goal.returns-then-branch-eq0-clause-held
returns-then-branch-eq0-clause-held g c =
    let move = as_answered _ false _ _ _ _ c.if-branch.false c.in_ok-take_part.ensures in
    let part = part_moved _ _ _ _ _ _ _ c.loop-line.invariant move in
    let f = c.in_ok-fill.ensures in
    part_held _ _ _ _ _ (part_more _ _ _ _ _ _ _ part move.1 f.sure f.cause.later f.taken (omega (arith, f.within, c.take_part.new.line.ok.0)))

pub returns-then-branch-eq0-clause-lazy : goal.returns-then-branch-eq0-clause-lazy
returns-then-branch-eq0-clause-lazy g c =
    let move = as_answered _ false _ _ _ _ c.if-branch.false c.in_ok-take_part.ensures in
    let part = part_moved _ _ _ _ _ _ _ c.loop-line.invariant move in
    let f = c.in_ok-fill.ensures in
    part_lazy _ _ _ _ _ (part_more _ _ _ _ _ _ _ part move.1 f.sure f.cause.later f.taken (omega (arith, f.within, c.take_part.new.line.ok.0)))

pub returns-in_err-fill-clause-lazy : goal.returns-in_err-fill-clause-lazy
returns-in_err-fill-clause-lazy g c =
    let move = as_answered _ false _ _ _ _ c.if-branch.false c.in_ok-take_part.ensures in
    let part = part_moved _ _ _ _ _ _ _ c.loop-line.invariant move in
    let f = c.in_err-fill.ensures in
    part_lazy _ _ _ _ _ (part_more _ _ _ _ _ _ _ part move.1 f.sure f.cause.later f.taken (omega (arith, f.within, c.take_part.new.line.ok.0)))
