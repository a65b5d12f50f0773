-- Where the cursor stands, and how many steps an actor made since its last answer.
use Rattle.std.proofs.Common.{◌≡◌, ◌<◌, ◌≤◌, ◌+◌, ℕ, List, [], ◌∷◌, ◌++◌, Bool, true, false, cond, None, Option, refl, ap, ◌∙◌, arith, length, length-append, nat_eq}
use Rattle.std.specs.Option.{unwrap_or}
use Rattle.resolver_model.specs.declared.history.Command.{Command}
use Rattle.resolver_model.specs.declared.history.Command.TheVariants as command
use Rattle.resolver_model.specs.declared.history.Reply.{Reply}
use Rattle.resolver_model.specs.declared.history.Reply.TheVariants.{Solution}
use Rattle.resolver_model.specs.declared.history.Entry.{Entry}
use Rattle.resolver_model.specs.declared.history.Entry.TheVariants.{Say, Take, Put, Back}
use Rattle.resolver_model.specs.Histories.{History, given_at, cursor_at, shown_by, puts_since, puts_after}
use Rattle.resolver_model.specs.Answers.{Setting, delivery_count, IsRightAnswer}
use Rattle.resolver_model.specs.Legal.{Follows, IsLegal}
use Rattle.laws_session.specs.Laws.{IsCursorLow}
use Rattle.laws_session.proofs.Longer.{legal_induction}
use Rattle.laws_session.proofs.Effects.{cursor_at-more, given_at-more, given_at-fresh, puts_since-more}

-- deliveries only add
deliveries_grow : (history : History) (entry : Entry) → delivery_count history ≤ delivery_count (history ++ entry ∷ [])
deliveries_grow history entry =
    let e : delivery_count (history ++ entry ∷ []) ≡ length (given_at history ++ given_at (entry ∷ [])) = ap length (given_at-more history entry) in
    let f = length-append (given_at history) (given_at (entry ∷ [])) in
    omega (arith, e, f)

stays : (history : History) (entry : Entry) → shown_by entry ≡ None → IsCursorLow history → IsCursorLow (history ++ entry ∷ [])
stays history entry none low =
    let e : cursor_at (history ++ entry ∷ []) ≡ cursor_at history = cursor_at-more history entry ∙ ap (λ (n : Option ℕ). unwrap_or n (cursor_at history)) none in
    let more = deliveries_grow history entry in
    omega (arith, e, more, low)

-- the number that a solution shows is that of a delivery
shows : (s : Setting) (history : History) (actor : ℕ) (command : Command) (number : ℕ) (set : List ℕ) (fresh : Bool) → IsRightAnswer s history actor command (Solution number set fresh) → IsCursorLow history
    → number ≤ delivery_count (history ++ Say actor command (Solution number set fresh) ∷ [])
shows s history actor command.Next number set false right low =
    let more = deliveries_grow history (Say actor command.Next (Solution number set false)) in
    let lt : cursor_at history < delivery_count history = right.0 in
    let e : number ≡ cursor_at history + 1 = right.1 in
    omega (arith, more, lt, e)
shows s history actor command.Next number set true right low =
    let now : delivery_count (history ++ Say actor command.Next (Solution number set true) ∷ []) ≡ length (given_at history ++ set ∷ []) = ap length (given_at-fresh history actor command.Next number set) in
    let size = length-append (given_at history) (set ∷ []) in
    let e : number ≡ delivery_count history + 1 = right.1 in
    omega (arith, now, size, e)
shows s history actor command.Prev number set false right low =
    let more = deliveries_grow history (Say actor command.Prev (Solution number set false)) in
    let e : number + 1 ≡ cursor_at history = right.1 in
    omega (arith, more, e, low)
shows s history actor command.Prev number set true right low = absurd right
shows s history actor command.Accept number set fresh right low = absurd right
shows s history actor (command.Cap level most) number set fresh right low = absurd right
shows s history actor (command.Reject c) number set fresh right low = absurd (cc)
shows s history actor (command.Approve c) number set fresh right low = absurd (cc)
shows s history actor (command.Free c) number set fresh right low = absurd (cc)
shows s history actor command.Rules number set fresh right low = absurd (cc)
shows s history actor command.Summary number set fresh right low = absurd (cc)
shows s history actor command.Quit number set fresh right low = absurd (cc)
shows s history actor (command.Bad kind) number set fresh right low = absurd (cc)

said : (s : Setting) (history : History) (actor : ℕ) (command : Command) (reply : Reply) → IsRightAnswer s history actor command reply → IsCursorLow history → IsCursorLow (history ++ Say actor command reply ∷ [])
said s history actor command (Solution number set fresh) right low =
    let e : cursor_at (history ++ Say actor command (Solution number set fresh) ∷ []) ≡ number = cursor_at-more history (Say actor command (Solution number set fresh)) in
    let le = shows s history actor command number set fresh right low in
    omega (arith, e, le)
said s history actor command reply right low = stays history (Say actor command reply) refl low

step : (s : Setting) (history : History) (entry : Entry) → Follows s history entry → IsCursorLow history → IsCursorLow (history ++ entry ∷ [])
step s history (Say actor command reply) next low = said s history actor command reply next.2 low
step s history (Take actor leaf) next low = stays history (Take actor leaf) refl low
step s history (Put actor leaf by learned) next low = stays history (Put actor leaf by learned) refl low
step s history (Back actor leaf) next low = stays history (Back actor leaf) refl low

-- The cursor stands at no delivery past the last.
pub IsCursorLow-legal : (s : Setting) (history : History) → IsLegal s history → IsCursorLow history
IsCursorLow-legal s history legal = legal_induction s IsCursorLow (omega arith) (λ before entry _ next low. step s before entry next low) history legal

-- A history has no more of an actor's steps than it has entries.
one_more : (who puts : ℕ) (entry : Entry) → puts_after who puts entry ≤ puts + 1
one_more who puts (Say actor command reply) = elim (nat_eq actor who) as (λ r. cond r 0 puts ≤ puts + 1) [ true ↦ omega arith | false ↦ omega arith ]
one_more who puts (Take actor leaf) = omega arith
one_more who puts (Put actor leaf by learned) = elim (nat_eq actor who) as (λ r. cond r (puts + 1) puts ≤ puts + 1) [ true ↦ omega arith | false ↦ omega arith ]
one_more who puts (Back actor leaf) = omega arith

pub puts_since-more_than : (s : Setting) (who : ℕ) (history : History) → IsLegal s history → puts_since who history ≤ length history
puts_since-more_than s who history legal =
    legal_induction s (λ h. puts_since who h ≤ length h) (omega arith)
    (λ before entry _ next le.
    let e = puts_since-more who before entry in
    let more = one_more who (puts_since who before) entry in
    let size = length-append before (entry ∷ []) in
    omega (arith, e, more, size, le)) history legal
