use Rattle.std.proofs.Common.{inr, [], ◌∷◌, refl}
use Rattle.resolver_model.specs.declared.history.Entry.TheVariants.{Take, Back}
use Rattle.search_thread.proofs.Pairs.{one_pair, one_back, made_take, all_out}
use Rattle.search_thread.proofs.search_one.Goals as goal

pub returns-in-Ok-clause-tried : goal.returns-in-Ok-clause-tried
returns-in-Ok-clause-tried g c =
    let p = c.args.pass.now in
    let q = c.take.new.pass in
    let job = c.in-Ok-Work.job in
    let turn = c.in-Ok-Work.ensures.turn in
    let done = c.in-Ok.ensures.done in
    let made = made_take p q turn.0 c.in-Ok-Work.field-0 job c.in-Ok-Work.field-0-is turn.1 in
    one_pair p.hand q.hand c.end_job.new.pass.hand job.leaf done.0 done.1 turn.1.actor made done.2

pub returns-in-Err-end_job-clause-tried : goal.returns-in-Err-end_job-clause-tried
returns-in-Err-end_job-clause-tried g c =
    let p = c.args.pass.now in
    let q = c.take.new.pass in
    let job = c.in-Ok-Work.job in
    let turn = c.in-Ok-Work.ensures.turn in
    let made = made_take p q turn.0 c.in-Ok-Work.field-0 job c.in-Ok-Work.field-0-is turn.1 in
    (Take p.hand.actor job.leaf ∷ Back p.hand.actor job.leaf ∷ [], one_back p.hand q.hand c.end_job.new.pass.hand job.leaf turn.1.actor made c.in-Err-end_job.ensures.undone, inr (job.leaf, refl))

pub returns-in-Ok-AllOut-clause-tried : goal.returns-in-Ok-AllOut-clause-tried
returns-in-Ok-AllOut-clause-tried g c =
    let turn = c.in-Ok-AllOut.ensures.turn in
    all_out c.args.pass.now c.take.new.pass turn.0 c.in-Ok-AllOut.field-0 c.in-Ok-AllOut.leaf c.in-Ok-AllOut.field-0-is turn.1 turn.2 c.requires.idle
