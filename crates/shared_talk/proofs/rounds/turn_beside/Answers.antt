use Rattle.std.proofs.Common.{rules}
use Rattle.shared_talk.proofs.Turning.{as_handed_in, retold}
use Rattle.shared_talk.proofs.Working.{worked_all}
use Rattle.shared_talk.proofs.rounds.turn_beside.Goals as goal

pub returns-clause-taken : goal.returns-clause-taken
returns-clause-taken g c =
    let talked = c.round_here.ensures.talked in
    retold _ _ _ _ _ _ _ _ _ _ _ _ _ _ _ (as_handed_in _ _ _ talked.0.now _ _ _ _ _ _ _ _ _ _ _ _ _ talked.1.now talked.2 talked.4 talked.3.met.1.0) (search rules) (search rules) (search rules) (search rules) (search rules)

pub returns-clause-workers : goal.returns-clause-workers
returns-clause-workers g c = worked_all c.args.workers.now c.round_here.new.workers (search rules) (λ i d lt. c.round_here.ensures.workers i d lt)
