use Rattle.std.proofs.Common.{inl, ◌+◌, [], refl}
use Rattle.search_thread.proofs.Pairs.{searched_more, same_more, worked_more}
use Rattle.search_thread.proofs.work.Goals as goal

pub loop-preserved-in-Made : goal.loop-preserved-in-Made
loop-preserved-in-Made g c =
    let p = c.args.pass.now in
    let q = c.loop.pass in
    let r = c.slice.new.pass in
    let inv = c.loop.invariant in
    record {
      same = same_more p q r inv.same c.slice.ensures.pass;
      searched = (inv.searched.0 + 64, searched_more p.hand q.hand r.hand inv.searched.0 64 [] inv.same.actor inv.searched.1 c.in-Made.ensures.ended.1);
    }

pub loop-preserved : goal.loop-preserved
loop-preserved g c =
    let p = c.args.pass.now in
    let q = c.loop.pass in
    let r = c.slice.new.pass in
    let inv = c.loop.invariant in
    let some = c.in-AllOut.ensures.ended.0 in
    record {
      same = same_more p q r inv.same c.slice.ensures.pass;
      searched = (inv.searched.0 + some.0, searched_more p.hand q.hand r.hand inv.searched.0 some.0 [] inv.same.actor inv.searched.1 some.2);
    }

pub returns-in-Stopped : goal.returns-in-Stopped
returns-in-Stopped g c =
    let inv = c.loop.invariant in
    let some = c.in-Stopped.ensures.ended.0 in
    worked_more c.args.pass.now c.loop.pass c.slice.new.pass inv.searched.0 some.0 [] inv.same c.slice.ensures.pass inv.searched.1 some.2 (inl refl)

pub returns-in-Ready : goal.returns-in-Ready
returns-in-Ready g c =
    let inv = c.loop.invariant in
    let some = c.in-Ready.ensures.ended.0 in
    worked_more c.args.pass.now c.loop.pass c.slice.new.pass inv.searched.0 some.0 [] inv.same c.slice.ensures.pass inv.searched.1 some.2 (inl refl)

pub returns-in-Done : goal.returns-in-Done
returns-in-Done g c =
    let inv = c.loop.invariant in
    let some = c.in-Done.ensures.ended.0 in
    worked_more c.args.pass.now c.loop.pass c.slice.new.pass inv.searched.0 some.0 [] inv.same c.slice.ensures.pass inv.searched.1 some.2 (inl refl)

pub returns-in-NoMemory : goal.returns-in-NoMemory
returns-in-NoMemory g c =
    let inv = c.loop.invariant in
    let ended = c.in-NoMemory.ensures.ended in
    let some = ended.1 in
    worked_more c.args.pass.now c.loop.pass c.slice.new.pass inv.searched.0 some.0 ended.0 inv.same c.slice.ensures.pass inv.searched.1 some.2 ended.2
