use Rattle.std.proofs.Common.{◌≡◌, ◌<◌, ◌∙◌, ap, sym, subst}
use Rattle.session_cell.specs.declared.next.Next.TheVariants as next
use Rattle.session_cell.specs.Passes.{Pass, knowing}
use Rattle.search_thread.specs.Slices.{IsBegun, job_or_end}
use Rattle.search_thread.proofs.Held.{begun, begun_anyhow}
use Rattle.search_thread.proofs.begin.Goals as goal

pub returns-in-Ok-clause-begun : goal.returns-in-Ok-clause-begun
returns-in-Ok-clause-begun g c =
    let old = c.args.pass.now in
    let asked = c.stop_asked-asked.new.pass in
    let new = c.take.new.pass in
    let round = c.args.round in
    let answer = c.in-Ok.taken in
    let know : asked ≡ knowing old c.stop_asked-asked.result = c.stop_asked-asked.ensures.pass in
    let turn = c.in-Ok.ensures.turn in
    let early : new.stop < round = subst (λ n. n < round) (sym (turn.1.stop ∙ ap (λ (p : Pass). p.stop) know)) c.if-asked-round.false in
    let all = begun asked new turn.0 answer round turn.1 turn.2 c.in-Ok.ensures.out early in
    let here = subst (λ (p : Pass). IsBegun p new round (job_or_end (next.Taken answer))) know all in
    subst (IsBegun old new round) (sym c.job_of.ensures) (begun_anyhow old new c.stop_asked-asked.result round (job_or_end (next.Taken answer)) here)
