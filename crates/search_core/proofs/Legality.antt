-- Calls keep the history legal, and jobs out.
use Rattle.std.proofs.Common.{◌≡◌, ℕ, true, List, [], ◌∷◌, ◌++◌, false, refl, sym, subst, ◌∙◌}
use Rattle.resolver_model.specs.declared.history.Command.{Command}
use Rattle.resolver_model.specs.declared.history.Entry.{Entry}
use Rattle.resolver_model.specs.declared.history.Entry.TheVariants.{Say, Take, Back}
use Rattle.resolver_model.specs.Histories.{History}
use Rattle.resolver_model.specs.Answers.{Setting}
use Rattle.resolver_model.specs.Legal.{IsLegal, Follows}
use Rattle.laws_session.specs.Laws.{is_end_by}
use Rattle.laws_session.proofs.Longer.{IsLegal-none, IsLegal-more}
use Rattle.laws_session.proofs.Hands.{AreHandsApart-legal}
use Rattle.laws_session.proofs.Staying.{IsKeptOut-legal}
use Rattle.search_core.specs.declared.jobs.Job.{Job}
use Rattle.search_core.specs.declared.jobs.Taken.{Taken}
use Rattle.search_core.specs.declared.jobs.Taken.TheVariants.{Work, Ready, Done, AllOut}
use Rattle.search_core.specs.declared.jobs.Answer.{Answer}
use Rattle.search_core.specs.declared.jobs.Answer.TheVariants as answer
use Rattle.search_core.specs.Jobs.{IsOut}
use Rattle.search_core.specs.Sessions.{Session, fresh, with_entry, with_room}
use Rattle.search_core.specs.Calls.{Call, TakeCall, PutCall, BackCall, ReserveCall, AnswerCall, RefusedCall, IsCall, AreCalls}
use Rattle.search_core.proofs.Ways.{Follows-take, Follows-back}

-- A job stays out until its actor ends it.
pub IsOut-kept : (s : Setting) (history : History) (entry : Entry) (job : Job) → IsLegal s history → Follows s history entry → IsOut s history job → is_end_by job.actor entry ≡ false → IsOut s (history ++ entry ∷ []) job
IsOut-kept s history entry job legal next out apart =
    let kept = IsKeptOut-legal s history entry legal next job.actor job.leaf out.leaf apart in
    record { leaf = kept.0; node = out.node ∙ sym kept.1; can = out.can }

-- the session is for what it was made for, and its history is legal
record Stands (s : Setting) (session : Session) : Type 0 where
  setting : session.setting ≡ s
  legal : IsLegal s session.history

-- with one entry more that may follow
grown : (s : Setting) (session : Session) (entry : Entry) → Stands s session → Follows session.setting session.history entry → Stands s (with_entry session entry)
grown s session entry h next =
    let F : Setting → Type 0 = λ x. Follows x session.history entry in
    record { setting = h.setting; legal = IsLegal-more s session.history entry h.legal (subst F h.setting next) }

-- what holds of the session after a call holds of it
carried : (s : Setting) (one other : Session) → other ≡ one → Stands s one → Stands s other
carried s one other e h = let S : Session → Type 0 = λ x. Stands s x in subst S (sym e) h

legal_of : (s : Setting) (session : Session) → Stands s session → IsLegal session.setting session.history
legal_of s session h = let L : Setting → Type 0 = λ x. IsLegal x session.history in subst L (sym h.setting) h.legal

taken_stands : (s : Setting) (session : Session) (actor : ℕ) (given : Taken) (next : Session) → Stands s session → IsCall (TakeCall actor given) session next → Stands s next
taken_stands s session actor (Work job) next h call =
    let leaf = call.2.0 in
    let first = call.2.1 in
    let J : Job → Type 0 = λ j. Follows session.setting session.history (Take actor j.leaf) in
    carried s _ next call.3 (grown s session (Take actor job.leaf) h (subst J (sym call.2.2) (Follows-take session.setting session.history actor leaf call.0 call.1 first.member first.passes.0 first.passes.1)))
taken_stands s session actor (Ready number) next h call = carried s session next call.3 h
taken_stands s session actor (AllOut number) next h call = carried s session next call.3 h
taken_stands s session actor Done next h call = carried s session next call.3 h

answered_stands : (s : Setting) (session : Session) (actor : ℕ) (command : Command) (given : Answer) (next : Session) → Stands s session → IsCall (AnswerCall actor command given) session next → Stands s next
answered_stands s session actor command (answer.Said said) next h call =
    let all = grown s session (Say actor command said.reply) h call.2.0 in
    carried s _ next call.3 (record { setting = all.setting; legal = all.legal })
answered_stands s session actor command answer.Search next h call = carried s session next call.3 h

step : (s : Setting) (call : Call) (session next : Session) → Stands s session → IsCall call session next → Stands s next
step s (TakeCall actor given) session next h call = taken_stands s session actor given next h call
step s (PutCall job) session next h call = carried s _ next call.1.1.0 (grown s session _ h call.1.1.2)
step s (BackCall job) session next h call =
    let low = (AreHandsApart-legal session.setting session.history (legal_of s session h)).actors job.actor job.leaf call.0.leaf in
    carried s _ next call.1 (grown s session (Back job.actor job.leaf) h (Follows-back session.setting session.history job low call.0))
step s (ReserveCall actor) session next h call = carried s (with_room session actor true) next call.1 (record { setting = h.setting; legal = h.legal })
step s (AnswerCall actor command given) session next h call = answered_stands s session actor command given next h call
step s RefusedCall session next h call = carried s session next call h

all_stand : (s : Setting) (calls : List Call) (session last : Session) → Stands s session → AreCalls calls session last → Stands s last
all_stand s [] session last h e = carried s session last e h
all_stand s (call ∷ calls) session last h steps = all_stand s calls steps.0 last (step s call session steps.0 h steps.1) steps.2

-- Whatever calls come, in whatever order, the history is legal.
pub IsLegal-calls : (s : Setting) (calls : List Call) (session : Session) → AreCalls calls (fresh s) session → IsLegal s session.history
IsLegal-calls s calls session steps = (all_stand s calls (fresh s) session (record { setting = refl; legal = IsLegal-none s }) steps).legal
