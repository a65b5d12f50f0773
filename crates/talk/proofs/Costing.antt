-- The solutions of legal histories are choice sets, so they have costs.
use Rattle.std.proofs.Common.{◌≡◌, ◌-◌, ℕ, zero, suc, List, [], ◌∷◌, ◌++◌, Bool, true, false, refl, ap, subst, ◌∙◌, append-nil, append_assoc}
use Rattle.std.specs.Prelude.{slice_index_or}
use Rattle.std.specs.List.{list_all}
use Rattle.std.proofs.lemmas.Bool.{and_from, and_parts}
use Rattle.std.proofs.lemmas.List.Folds.{list_all-append}
use Rattle.resolver_model.specs.declared.history.Command.{Command}
use Rattle.resolver_model.specs.declared.history.Command.TheVariants as command
use Rattle.resolver_model.specs.declared.history.Reply.{Reply}
use Rattle.resolver_model.specs.declared.history.Reply.TheVariants.{Solution, NoMore, NotYet, Marked, Rules, Summary, NotShown, AtFirst, RuledOut, OverCap, NoLevel, Accepted, Ended, Misread}
use Rattle.resolver_model.specs.declared.history.Entry.{Entry}
use Rattle.resolver_model.specs.declared.history.Entry.TheVariants.{Say, Take, Put, Back}
use Rattle.resolver_model.specs.Problems.{Problem, is_choice_set, is_solution}
use Rattle.resolver_model.specs.Rules.{Rules as UserRules}
use Rattle.resolver_model.specs.First.{IsFirst}
use Rattle.resolver_model.specs.Histories.{History, given_at}
use Rattle.resolver_model.specs.Answers.{Setting, delivery, IsRightAnswer}
use Rattle.resolver_model.specs.Legal.{IsLegal, Follows}
use Rattle.laws_session.proofs.Longer.{legal_induction}
use Rattle.laws_session.proofs.Effects.{given_at-more, given_at-fresh, given_at-none}
use Rattle.dialogue.specs.Texts.{HasCost}

abbrev are_sets : Setting → History → Type 0
are_sets s history = list_all (is_choice_set s.problem) (given_at history) ≡ true

pick : (p : List ℕ → Bool) (sets : List (List ℕ)) (place : ℕ) → list_all p sets ≡ true → p [] ≡ true → p (slice_index_or sets place []) ≡ true
pick p [] place h k = k
pick p (set ∷ sets) zero h k = (and_parts (p set) (list_all p sets) h).0
pick p (set ∷ sets) (suc place) h k = pick p sets place (and_parts (p set) (list_all p sets) h).1 k

first_is : (s : Setting) (rules : UserRules) (given : List (List ℕ)) (set : List ℕ) → IsFirst s.problem s.table rules given set → is_choice_set s.problem set ≡ true
first_is s rules given set first =
    let solution : is_solution s.problem set ≡ true = (and_parts _ _ (and_parts _ _ first.obtainable).0).0 in
    (and_parts _ _ (and_parts _ _ solution).0).0

delivery_is : (s : Setting) (history : History) (number : ℕ) (set : List ℕ) → set ≡ delivery history number → are_sets s history → is_choice_set s.problem set ≡ true
delivery_is s history number set e h = ap (is_choice_set s.problem) e ∙ pick (is_choice_set s.problem) (given_at history) (number - 1) h refl

-- a solution that is right to show is a choice set
set_is : (s : Setting) (history : History) (actor : ℕ) (said : Command) (number : ℕ) (set : List ℕ) (fresh : Bool) → IsRightAnswer s history actor said (Solution number set fresh) → are_sets s history → is_choice_set s.problem set ≡ true
set_is s history actor command.Next number set false right h = delivery_is s history number set right.2 h
set_is s history actor command.Next number set true right h = first_is s _ _ set right.2
set_is s history actor command.Prev number set false right h = delivery_is s history number set right.2 h
set_is s history actor command.Prev number set true right h = absurd right
set_is s history actor command.Accept number set fresh right h = absurd right
set_is s history actor (command.Cap level most) number set fresh right h = absurd right
set_is s history actor (command.Reject c) number set fresh right h = absurd (cc)
set_is s history actor (command.Approve c) number set fresh right h = absurd (cc)
set_is s history actor (command.Free c) number set fresh right h = absurd (cc)
set_is s history actor command.Rules number set fresh right h = absurd (cc)
set_is s history actor command.Summary number set fresh right h = absurd (cc)
set_is s history actor command.Quit number set fresh right h = absurd (cc)
set_is s history actor (command.Bad kind) number set fresh right h = absurd (cc)

stays : (s : Setting) (history : History) (entry : Entry) → given_at (history ++ entry ∷ []) ≡ given_at history → are_sets s history → are_sets s (history ++ entry ∷ [])
stays s history entry e h = ap (list_all (is_choice_set s.problem)) e ∙ h

said_step : (s : Setting) (history : History) (actor : ℕ) (said : Command) (reply : Reply) → IsRightAnswer s history actor said reply → are_sets s history → are_sets s (history ++ Say actor said reply ∷ [])
said_step s history actor said (Solution number set true) right h =
    let p = is_choice_set s.problem in
    let is : p set ≡ true = set_is s history actor said number set true right h in
    ap (list_all p) (given_at-fresh history actor said number set) ∙ list_all-append p (given_at history) (set ∷ []) ∙ and_from (list_all p (given_at history)) (list_all p (set ∷ [])) h (and_from (p set) true is refl)
said_step s history actor said (Solution number set false) right h = stays s history (Say actor said (Solution number set false)) (given_at-none history actor said (Solution number set false) refl) h
said_step s history actor said NoMore right h = stays s history (Say actor said NoMore) (given_at-none history actor said NoMore refl) h
said_step s history actor said (NotYet steps) right h = stays s history (Say actor said (NotYet steps)) (given_at-none history actor said (NotYet steps) refl) h
said_step s history actor said Marked right h = stays s history (Say actor said Marked) (given_at-none history actor said Marked refl) h
said_step s history actor said (Rules marks caps) right h = stays s history (Say actor said (Rules marks caps)) (given_at-none history actor said (Rules marks caps) refl) h
said_step s history actor said (Summary deliveries choices) right h = stays s history (Say actor said (Summary deliveries choices)) (given_at-none history actor said (Summary deliveries choices) refl) h
said_step s history actor said NotShown right h = stays s history (Say actor said NotShown) (given_at-none history actor said NotShown refl) h
said_step s history actor said AtFirst right h = stays s history (Say actor said AtFirst) (given_at-none history actor said AtFirst refl) h
said_step s history actor said (RuledOut c) right h = stays s history (Say actor said (RuledOut c)) (given_at-none history actor said (RuledOut c) refl) h
said_step s history actor said (OverCap level) right h = stays s history (Say actor said (OverCap level)) (given_at-none history actor said (OverCap level) refl) h
said_step s history actor said NoLevel right h = stays s history (Say actor said NoLevel) (given_at-none history actor said NoLevel refl) h
said_step s history actor said Accepted right h = stays s history (Say actor said Accepted) (given_at-none history actor said Accepted refl) h
said_step s history actor said Ended right h = stays s history (Say actor said Ended) (given_at-none history actor said Ended refl) h
said_step s history actor said (Misread kind) right h = stays s history (Say actor said (Misread kind)) (given_at-none history actor said (Misread kind) refl) h

step : (s : Setting) (history : History) (entry : Entry) → Follows s history entry → are_sets s history → are_sets s (history ++ entry ∷ [])
step s history (Say actor said reply) next h = said_step s history actor said reply next.2 h
step s history (Take actor leaf) next h = stays s history (Take actor leaf) (given_at-more history (Take actor leaf) ∙ append-nil (given_at history)) h
step s history (Put actor leaf by learned) next h = stays s history (Put actor leaf by learned) (given_at-more history (Put actor leaf by learned) ∙ append-nil (given_at history)) h
step s history (Back actor leaf) next h = stays s history (Back actor leaf) (given_at-more history (Back actor leaf) ∙ append-nil (given_at history)) h

sets_legal : (s : Setting) (history : History) → IsLegal s history → are_sets s history
sets_legal s history legal = legal_induction s (are_sets s) refl (λ before entry _ next h. step s before entry next h) history legal

reply_cost : (s : Setting) (history : History) (actor : ℕ) (said : Command) (reply : Reply) → IsRightAnswer s history actor said reply → are_sets s history → HasCost s.problem reply
reply_cost s history actor said (Solution number set fresh) right h = set_is s history actor said number set fresh right h
reply_cost s history actor said reply right h = tt

-- the reply that a legal history ends with
pub last_cost : (s : Setting) (p : Problem) (history now : History) (said : Command) (reply : Reply) → s.problem ≡ p → IsLegal s now → now ≡ history ++ Say 0 said reply ∷ [] → HasCost p reply
last_cost s p history now said reply same legal e =
    let next = legal history (Say 0 said reply) [] e in
    let before : IsLegal s history = λ b x after f. legal b x (after ++ Say 0 said reply ∷ []) (e ∙ ap (λ h. h ++ Say 0 said reply ∷ []) f ∙ append_assoc b (x ∷ after) (Say 0 said reply ∷ [])) in
    let P : Problem → Type 0 = λ q. HasCost q reply in
    subst P same (reply_cost s history 0 said reply next.2 (sets_legal s history before))
