use Rattle.std.proofs.Common.{sym, subst}
use Rattle.search_thread.specs.Slices.{IsGoneOn}
use Rattle.search_thread.proofs.Held.{gone_on}
use Rattle.search_thread.proofs.go_on.Goals as goal

pub returns-in-Ok-put_and_take-clause-gone : goal.returns-in-Ok-put_and_take-clause-gone
returns-in-Ok-put_and_take-clause-gone g c =
    let old = c.args.pass.now in
    let new = c.put_and_take.new.pass in
    let put = c.in-Ok-put_and_take.ensures in
    let turn = put.turn in
    let all = gone_on old new c.args.job c.in-Ok-put_and_take.next turn.0 turn.1 c.args.round c.requires.job.0 turn.2 turn.3 put.heeds put.next in
    subst (IsGoneOn old c.args.job.leaf new c.args.round) (sym c.job_of.ensures) all
