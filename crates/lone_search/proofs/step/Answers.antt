-- Where a leaf is wanted and nobody has one out, one was handed out.
use Rattle.std.proofs.Common.{subst}
use Rattle.laws_session.proofs.Hands.{AreHandsApart-legal}
use Rattle.search_core.specs.Sessions.{IsTaken}
use Rattle.lone_search.proofs.Stepping.{none-ready, none-done, none-out}
use Rattle.lone_search.proofs.step.Goals as goal

pub returns-in-Ready : goal.returns-in-Ready
returns-in-Ready c =
    let now = c.args.session.now in
    absurd (none-ready now.setting now.history c.in-Ready.leaf c.requires.wanted (subst (IsTaken now.setting now.history 0) c.in-Ready.is c.in_ok-job.ensures.answer))

pub returns-in-Done : goal.returns-in-Done
returns-in-Done c =
    let now = c.args.session.now in
    absurd (none-done now.setting now.history c.requires.wanted (subst (IsTaken now.setting now.history 0) c.in-Done.is c.in_ok-job.ensures.answer))

pub returns-in-AllOut : goal.returns-in-AllOut
returns-in-AllOut c =
    let now = c.args.session.now in
    absurd (none-out now.setting now.history c.in-AllOut.leaf c.requires.alone (AreHandsApart-legal now.setting now.history c.history.ensures.legal) (subst (IsTaken now.setting now.history 0) c.in-AllOut.is c.in_ok-job.ensures.answer))
