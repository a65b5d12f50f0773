-- A run over a session with one actor is one over a shared session too.
use Rattle.std.proofs.Common.{◌≡◌, ◌<◌, ℕ, [], ◌∷◌, ◌++◌, true, refl, ap, sym, subst, arith}
use Rattle.std.proofs.lemmas.Bool.{eq-eqb}
use Rattle.resolver_model.specs.declared.history.Entry.{Entry}
use Rattle.resolver_model.specs.declared.history.Entry.TheVariants.{Say, Take, Put, Back}
use Rattle.resolver_model.specs.Histories.{History}
use Rattle.resolver_model.specs.Answers.{Setting}
use Rattle.resolver_model.specs.Legal.{IsLegal, Follows}
use Rattle.cell_rule.specs.Views.{actor_of, AreBy}
use Rattle.cell_rule.proofs.Basics.{own_entries}
use Rattle.run_status.specs.declared.Status.{Status}
use Rattle.talk.specs.Transcripts.{Script}
use Rattle.talk.specs.Ends.{Scene}
use Rattle.talk.specs.Runs.{IsOver}
use Rattle.shared_talk.specs.Shared.{is_talkers, own_part, IsOverShared}
use Rattle.shared_talk.proofs.Own.{over_shared}
use Rattle.shared_talk.proofs.Closing.{from_cuts}

below_actors : (s : Setting) (before : History) (e : Entry) → Follows s before e → actor_of e < s.actors
below_actors s before (Say actor command said) next = next.0
below_actors s before (Take actor leaf) next = next.0
below_actors s before (Put actor leaf by learned) next = next.0
below_actors s before (Back actor leaf) next = next.0

by_first : (s : Setting) (history : History) → s.actors ≡ 1 → IsLegal s history → (before : History) (e : Entry) (after : History) → history ≡ before ++ e ∷ after → actor_of e ≡ 0
by_first s history one legal before e after cut =
    let below : actor_of e < s.actors = below_actors s before e (legal before e after cut) in
    omega (arith, below, one)

all_by : (actor : ℕ) (history : History) → ((before : History) (e : Entry) (after : History) → history ≡ before ++ e ∷ after → actor_of e ≡ actor) → AreBy actor history
all_by actor [] f = tt
all_by actor (e ∷ es) f = (f [] e es refl, all_by actor es (λ before x after cut. f (e ∷ before) x after (ap (λ l. e ∷ l) cut)))

talker_at : (e : Entry) → actor_of e ≡ 0 → is_talkers e ≡ true
talker_at (Say actor command said) is = eq-eqb actor 0 is
talker_at (Take actor leaf) is = refl
talker_at (Put actor leaf by learned) is = refl
talker_at (Back actor leaf) is = refl

pub over_alone : (s : Setting) (script : Script) (status : Status) (lines : ℕ) (old new : Scene) → s.actors ≡ 1 → IsLegal s new.history → IsOver script status lines old new → IsOverShared script status lines old new
over_alone s script status lines old new one legal over =
    let first = by_first s new.history one legal in
    let own : own_part new.history ≡ new.history = own_entries 0 new.history (all_by 0 new.history first) in
    let O : History → Type 0 = λ h. IsOver script status lines old (record new { history = h }) in
    over_shared script status lines old new (from_cuts is_talkers new.history (λ before e after cut. talker_at e (first before e after cut))) (subst O (sym own) over)
