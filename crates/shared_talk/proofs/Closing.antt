-- The history of a session that was shared: nobody but actor 0 was answered.
use Rattle.std.proofs.Common.{◌≡◌, ◌≢◌, ◌==◌, ◌<◌, ◌||◌, ℕ, List, [], ◌∷◌, ◌++◌, Bool, true, false, cond, refl, ap, sym, subst, ◌∙◌, take, length}
use Rattle.std.proofs.Math.Seq.{take-append_seam}
use native.Mathlib.Decide.{ℕ_discrete}
use Rattle.std.specs.List.{list_all}
use Rattle.std.proofs.lemmas.Bool.{and_from, eqb-true, eq-eqb}
use Rattle.lists.proofs.Cuts.{not_cut}
use Rattle.resolver_model.specs.declared.history.Command.{Command}
use Rattle.resolver_model.specs.declared.history.Reply.{Reply}
use Rattle.resolver_model.specs.declared.history.Entry.{Entry}
use Rattle.resolver_model.specs.declared.history.Entry.TheVariants.{Say, Take, Put, Back}
use Rattle.resolver_model.specs.Histories.{History}
use Rattle.resolver_model.specs.Answers.{Setting}
use Rattle.resolver_model.specs.Legal.{IsLegal}
use Rattle.cell_rule.specs.declared.view.Hand.{Hand}
use Rattle.cell_rule.specs.Views.{entries_by, stands, Each}
use Rattle.cell_rule.proofs.Basics.{entries_more}
use Rattle.session_cell.specs.Passes.{Cell, Pass, Holds, hands_of}
use Rattle.talk.specs.Ends.{commands_in}
use Rattle.talk.proofs.Quiet.{commands_in-append}
use Rattle.apt_base.specs.Bytes.{SourceState, SinkState}
use Rattle.run_status.specs.declared.Status.{Status}
use Rattle.talk.specs.Transcripts.{Script}
use Rattle.talk.specs.Ends.{Scene}
use Rattle.talk.specs.Runs.{IsOver}
use Rattle.shared_talk.specs.Shared.{is_talkers, IsTalkerAlone, own_part, IsOverShared}
use Rattle.shared_talk.specs.Passes.{IsQuietOther, AreDone, HaveSpoken}
use Rattle.shared_talk.proofs.Own.{front_alone, over_shared}

-- what holds at each cut holds of all
pub from_cuts : (p : Entry → Bool) (h : History) → ((before : History) (e : Entry) (after : History) → h ≡ before ++ e ∷ after → p e ≡ true) → list_all p h ≡ true
from_cuts p [] f = refl
from_cuts p (e ∷ es) f = and_from (p e) (list_all p es) (f [] e es refl) (from_cuts p es (λ before x after cut. f (e ∷ before) x after (ap (λ l. e ∷ l) cut)))

quiet_actor : (history : History) (actor : ℕ) (hands : List Hand) → actor ≢ 0 → stands actor hands ≡ true → Each (Holds history) hands → Each IsQuietOther hands → commands_in (entries_by actor history) ≡ []
quiet_actor history actor [] other stand held quiet = absurd (cc)
quiet_actor history actor (h ∷ hs) other stand held quiet =
    at (h.actor == actor) refl (λ past. quiet_actor history actor hs other past held.1 quiet.1)
  where
    at : (b : Bool) → (h.actor == actor) ≡ b → (stands actor hs ≡ true → commands_in (entries_by actor history) ≡ []) → commands_in (entries_by actor history) ≡ []
    at true is further =
        let same : h.actor ≡ actor = eqb-true h.actor actor is in
        ap (λ (a : ℕ). commands_in (entries_by a history)) (sym same) ∙ ap commands_in (sym held.0.1) ∙ quiet.0 (λ z. other (sym same ∙ z))
    at false is further = further (ap (λ (b : Bool). b || stands actor hs) (sym is) ∙ stand)

own_cut : (actor : ℕ) (command : Command) (said : Reply) (before after : History)
    → commands_in (entries_by actor (before ++ Say actor command said ∷ after)) ≡ commands_in (entries_by actor before) ++ command ∷ commands_in (entries_by actor after)
own_cut actor command said before after =
    let e = Say actor command said in
    let is : (actor == actor) ≡ true = eq-eqb actor actor refl in
    let keeps : entries_by actor (e ∷ after) ≡ e ∷ entries_by actor after = ap (λ (b : Bool). cond b (e ∷ entries_by actor after) (entries_by actor after)) is in
    ap commands_in (entries_more actor before (e ∷ after) ∙ ap (λ (l : History). entries_by actor before ++ l) keeps)
    ∙ commands_in-append (entries_by actor before) (e ∷ entries_by actor after)

pub only_talker : (s : Setting) (history : History) (hands : List Hand) → IsLegal s history → Each (Holds history) hands → ((actor : ℕ) → actor < s.actors → stands actor hands ≡ true) → Each IsQuietOther hands
    → list_all is_talkers history ≡ true
only_talker s history hands legal held all quiet = from_cuts is_talkers history at
  where
    say : (before : History) (actor : ℕ) (command : Command) (said : Reply) (after : History) → history ≡ before ++ Say actor command said ∷ after → Dec (actor ≡ 0) → (actor == 0) ≡ true
    say before actor command said after cut (yes zero_is) = eq-eqb actor 0 zero_is
    say before actor command said after cut (no other) =
        let below : actor < s.actors = (legal before (Say actor command said) after cut).0 in
        let none = quiet_actor history actor hands other (all actor below) held quiet in
        let some = ap (λ (h : History). commands_in (entries_by actor h)) cut ∙ own_cut actor command said before after in
        absurd (not_cut (commands_in (entries_by actor before)) command (commands_in (entries_by actor after)) (sym none ∙ some))

    at : (before : History) (e : Entry) (after : History) → history ≡ before ++ e ∷ after → is_talkers e ≡ true
    at before (Say actor command said) after cut = say before actor command said after cut (ℕ_discrete actor 0)
    at before (Take actor leaf) after cut = refl
    at before (Put actor leaf by learned) after cut = refl
    at before (Back actor leaf) after cut = refl

-- the session that all passes give back has the whole run
pub closed : (cell : Cell) (s : Setting) (script : Script) (status : Status) (lines : ℕ) (old : Scene) (passes : List Pass) (input : SourceState) (out : SinkState) (history : History) → s ≡ cell.start.setting → IsLegal s history
    → Each (Holds history) (hands_of passes) → AreDone cell passes → HaveSpoken script status lines old passes input out → IsOverShared script status lines old (record { history = history; input = input; out = out })
closed cell s script status lines old passes input out history same legal held done spoken =
    let all : (actor : ℕ) → actor < s.actors → stands actor (hands_of passes) ≡ true = λ actor lt. done.all actor (subst (λ (x : Setting). actor < x.actors) same lt) in
    let alone = only_talker s history (hands_of passes) legal held all done.quiet in
    let P : List Pass → Type 0 = λ ps. Each (Holds history) (hands_of ps) in
    let first = (subst P spoken.are held).0 in
    let seen : IsTalkerAlone spoken.talker.hand.seen = front_alone spoken.talker.hand.seen first.0.0 (subst IsTalkerAlone (sym first.0.1) alone) in
    let made : spoken.talker.hand.made ≡ own_part history = first.1 ∙ ap (λ (a : ℕ). entries_by a history) spoken.first in
    let O : History → Type 0 = λ h. IsOver script status lines old (record { history = h; input = input; out = out }) in
    over_shared script status lines old (record { history = history; input = input; out = out }) alone (subst O made (spoken.over seen))

-- a list that was written back whole
pub held_by : (history : History) (len : ℕ) (passes rest : List Pass) → Each (Holds history) (hands_of (take len (passes ++ rest))) → len ≡ length passes → Each (Holds history) (hands_of passes)
held_by history len passes rest held is =
    let whole : take len (passes ++ rest) ≡ passes = ap (λ (n : ℕ). take n (passes ++ rest)) is ∙ take-append_seam passes rest in
    subst (λ (ps : List Pass). Each (Holds history) (hands_of ps)) whole held
