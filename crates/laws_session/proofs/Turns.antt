-- Without rules the deliveries are first in turn, and once no more is left they are the minimal solutions, each once.
use Rattle.std.proofs.Common.{ℕ, List, true, subst}
use Rattle.resolver_model.specs.declared.history.Command.TheVariants.{Next}
use Rattle.resolver_model.specs.declared.history.Reply.TheVariants.{Solution, NoMore}
use Rattle.resolver_model.specs.declared.history.Entry.{Entry}
use Rattle.resolver_model.specs.declared.history.Entry.TheVariants.{Say, Take, Put, Back}
use Rattle.resolver_model.specs.Rules.{Rules, no_rules}
use Rattle.resolver_model.specs.First.{IsFirst}
use Rattle.resolver_model.specs.Histories.{History, given_at}
use Rattle.resolver_model.specs.Answers.{Setting, IsRightEntry, AreAnswersRight}
use Rattle.resolver_model.specs.Legal.{Follows, IsLegal}
use Rattle.resolver_model.specs.Enumeration.{IsWithoutRules, AreMinimalSolutions}
use Rattle.resolver_model.proofs.Enumerations.{right_first, delivered_after, enumerates_minimal}
use Rattle.laws_session.specs.Laws.{IsDeliveredWithoutRules, AreFirstInTurn}

right_entry : (s : Setting) (history : History) (entry : Entry) → Follows s history entry → IsRightEntry s history entry
right_entry s history (Say actor command reply) next = (next.0, next.1, next.2)
right_entry s history (Take actor leaf) next = tt
right_entry s history (Put actor leaf by learned) next = tt
right_entry s history (Back actor leaf) next = tt

-- The answers of a legal history are right.
pub AreAnswersRight-legal : (s : Setting) (history : History) → IsLegal s history → AreAnswersRight s history
AreAnswersRight-legal s history legal before entry after e = right_entry s before entry (legal before entry after e)

pub AreFirstInTurn-legal : (s : Setting) (history : History) → IsLegal s history → IsDeliveredWithoutRules s history → AreFirstInTurn s history
AreFirstInTurn-legal s history legal bare before set after e =
    let d = delivered_after history before set after e in
    let next = legal d.before (Say d.actor d.said (Solution d.number set true)) d.after d.is in
    let first = right_first s d.before d.actor d.said d.number set next.2 in
    let P : Rules → Type 0 = λ r. IsFirst s.problem s.table r (given_at d.before) set in
    let G : List (List ℕ) → Type 0 = λ g. IsFirst s.problem s.table no_rules g set in
    subst G d.given_is (subst P (bare d.before d.actor d.said d.number set d.after d.is) first)

pub AreMinimalSolutions-legal : (s : Setting) (history : History) (actor : ℕ) → IsLegal s history → IsWithoutRules s history → Follows s history (Say actor Next NoMore) → AreMinimalSolutions s.problem (given_at history)
AreMinimalSolutions-legal s history actor legal bare next = enumerates_minimal s history actor (AreAnswersRight-legal s history legal) bare next.2
