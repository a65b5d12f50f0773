-- What the store picks says which of the answers is right.
use Rattle.std.proofs.Common.{◌≡◌, ℕ, true, sym, subst}
use Rattle.resolver_model.specs.declared.history.Command.TheVariants.{Next}
use Rattle.resolver_model.specs.Trees.{is_some_wanted}
use Rattle.resolver_model.specs.Answers.{situation_at}
use Rattle.frontier.specs.declared.picks.Pick.{Pick}
use Rattle.frontier.specs.declared.picks.Pick.TheVariants.{Wanted, Held}
use Rattle.search_core.specs.declared.jobs.Answer.{Answer}
use Rattle.search_core.specs.Sessions.{Session, IsAnswer}
use Rattle.search_core.specs.Stores.{IsPicked}
use Rattle.search_core.proofs.Picks.{some_wanted}
use Rattle.search_core.proofs.session.Session.next.Goals as goal

wanted_now : (now new : Session) (which : Pick) (n : ℕ) → new ≡ now → which ≡ Wanted n → IsPicked now.setting now.history which → is_some_wanted (situation_at new.setting new.history) ≡ true
wanted_now now new which n same is picked =
    let P : Pick → Type 0 = λ p. IsPicked now.setting now.history p in
    let S : Session → Type 0 = λ x. is_some_wanted (situation_at x.setting x.history) ≡ true in
    let p = subst P is picked in
    subst S (sym same) (some_wanted now.setting now.history p.0 p.1.member p.1.passes.0)

held_now : (now new : Session) (which : Pick) (n : ℕ) → new ≡ now → which ≡ Held n → IsPicked now.setting now.history which → is_some_wanted (situation_at new.setting new.history) ≡ true
held_now now new which n same is picked =
    let P : Pick → Type 0 = λ p. IsPicked now.setting now.history p in
    let S : Session → Type 0 = λ x. is_some_wanted (situation_at x.setting x.history) ≡ true in
    let p = subst P is picked in
    subst S (sym same) (some_wanted now.setting now.history p.1.0 p.1.1.member p.1.1.passes)

pub go_on-requires-clause-wanted : goal.go_on-requires-clause-wanted
go_on-requires-clause-wanted c = wanted_now c.args.self.now c.look.new.self c.in_ok-look.field-0 c.in-Wanted.field-0 c.look.ensures.same c.in-Wanted.is c.in_ok-look.ensures.picked

pub go_on-requires-in-Held-clause-wanted : goal.go_on-requires-in-Held-clause-wanted
go_on-requires-in-Held-clause-wanted c = held_now c.args.self.now c.look.new.self c.in_ok-look.field-0 c.in-Held.field-0 c.look.ensures.same c.in-Held.is c.in_ok-look.ensures.picked

answered : (now new : Session) (actor : ℕ) (result : Answer) → new ≡ now → IsAnswer new.setting new.history actor Next result → IsAnswer now.setting now.history actor Next result
answered now new actor result same h = let P : Session → Type 0 = λ x. IsAnswer x.setting x.history actor Next result in subst P same h

pub returns-in-Held-clause-answer : goal.returns-in-Held-clause-answer
returns-in-Held-clause-answer c = answered c.args.self.now c.look.new.self c.args.actor c.go_on-in-Held.result c.look.ensures.same c.go_on-in-Held.ensures.answer
