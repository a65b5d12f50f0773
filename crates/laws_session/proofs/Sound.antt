-- Every line of a legal history is sound for its deliveries.
use Rattle.std.proofs.Common.{inl, inr, ◌≡◌, ℕ, List, [], ◌∷◌, ◌++◌, true, false, refl, ap, sym, subst, ◌∙◌, append_assoc, append-nil}
use Rattle.std.proofs.lemmas.Bool.{or_left, or_right}
use Rattle.std.proofs.lemmas.List.Folds.{list_any-append}
use Rattle.lists.proofs.Members.{Member, Member-append_cases}
use Rattle.lists.specs.Sets.{is_subset}
use Rattle.resolver_model.specs.declared.lines.Line.{Line}
use Rattle.resolver_model.specs.declared.history.Command.{Command}
use Rattle.resolver_model.specs.declared.history.Reply.{Reply}
use Rattle.resolver_model.specs.declared.history.Reply.TheVariants.{Solution}
use Rattle.resolver_model.specs.declared.history.Entry.{Entry}
use Rattle.resolver_model.specs.declared.history.Entry.TheVariants.{Say, Take, Put, Back}
use Rattle.resolver_model.specs.Problems.{Problem}
use Rattle.resolver_model.specs.Costs.{Table}
use Rattle.resolver_model.specs.Lines.{has_delivery, IsSound}
use Rattle.resolver_model.specs.Histories.{History, given_at, given_line, lines_at, lines_of}
use Rattle.resolver_model.specs.Answers.{Setting}
use Rattle.resolver_model.specs.Legal.{AreDerived, Follows, IsLegal}
use Rattle.resolver_model.proofs.Soundness.{IsSound-derived, IsSound-more}
use Rattle.laws_session.specs.Laws.{AreLinesSound}
use Rattle.laws_session.proofs.Longer.{legal_induction}
use Rattle.laws_session.proofs.Effects.{given_at-more, lines_at-more}

-- The line of a delivery is sound.
pub IsSound-given : (p : Problem) (table : Table) (given : List (List ℕ)) (set : List ℕ) → IsSound p table (given ++ set ∷ []) (given_line set)
IsSound-given p table given set other solution within = list_any-append (λ delivery. is_subset delivery other) given (set ∷ []) ∙ or_right (has_delivery given other) _ (or_left (is_subset set other) false within)

-- Lines that are derived one after another from sound ones are sound.
pub AreSound-derived : (p : Problem) (table : Table) (lines : List Line) (given : List (List ℕ)) (learned : List Line) → ((l : Line) → Member l lines → IsSound p table given l) → AreDerived p table lines given learned
    → (l : Line) → Member l (lines ++ learned) → IsSound p table given l
AreSound-derived p table lines given [] sound derived l m = let P : List Line → Type 0 = λ ls. Member l ls in sound l (subst P (append-nil lines) m)
AreSound-derived p table lines given (line ∷ learned) sound derived l m =
    let first = IsSound-derived p table lines given line sound derived.0 in
    let P : List Line → Type 0 = λ ls. Member l ls in
    AreSound-derived p table (lines ++ line ∷ []) given learned
    (λ x k. elim (Member-append_cases x lines (line ∷ []) k) as (λ _. IsSound p table given x) [
      | inl old ↦ sound x old
      | inr new ↦ elim new as (λ _. IsSound p table given x) [ inl e ↦ let S : Line → Type 0 = λ y. IsSound p table given y in subst S (sym e) first | inr nothing ↦ absurd nothing ]
    ]) derived.1 l (subst P (sym (append_assoc lines (line ∷ []) learned)) m)

-- what is sound after one more entry
step : (s : Setting) (history : History) (entry : Entry) → ((l : Line) → Member l (lines_at history ++ lines_of entry) → IsSound s.problem s.table (given_at history ++ given_at (entry ∷ [])) l) → AreLinesSound s (history ++ entry ∷ [])
step s history entry sound l m =
    let M : List Line → Type 0 = λ ls. Member l ls in
    let G : List (List ℕ) → Type 0 = λ g. IsSound s.problem s.table g l in
    subst G (sym (given_at-more history entry)) (sound l (subst M (lines_at-more history entry) m))

-- an entry without lines
step_still : (s : Setting) (history : History) (entry : Entry) → lines_of entry ≡ [] → AreLinesSound s history → AreLinesSound s (history ++ entry ∷ [])
step_still s history entry none sound =
    step s history entry (λ l m.
    let M : List Line → Type 0 = λ ls. Member l ls in
    let e : lines_at history ++ lines_of entry ≡ lines_at history = ap (λ ls. lines_at history ++ ls) none ∙ append-nil (lines_at history) in
    IsSound-more s.problem s.table (given_at history) (given_at (entry ∷ [])) l (sound l (subst M e m)))

step_say : (s : Setting) (history : History) (actor : ℕ) (command : Command) (reply : Reply) → AreLinesSound s history → AreLinesSound s (history ++ Say actor command reply ∷ [])
step_say s history actor command (Solution number set true) sound =
    step s history (Say actor command (Solution number set true)) (λ l m.
    elim (Member-append_cases l (lines_at history) (given_line set ∷ []) m) as (λ _. IsSound s.problem s.table (given_at history ++ set ∷ []) l) [
      | inl old ↦ IsSound-more s.problem s.table (given_at history) (set ∷ []) l (sound l old)
      | inr new ↦
          elim new as (λ _. IsSound s.problem s.table (given_at history ++ set ∷ []) l) [
            | inl e ↦ let S : Line → Type 0 = λ y. IsSound s.problem s.table (given_at history ++ set ∷ []) y in subst S (sym e) (IsSound-given s.problem s.table (given_at history) set)
            | inr nothing ↦ absurd nothing
          ]
    ])
step_say s history actor command reply sound = step_still s history (Say actor command reply) refl sound

step_of : (s : Setting) (history : History) (entry : Entry) → Follows s history entry → AreLinesSound s history → AreLinesSound s (history ++ entry ∷ [])
step_of s history (Say actor command reply) next sound = step_say s history actor command reply sound
step_of s history (Take actor leaf) next sound = step_still s history (Take actor leaf) refl sound
step_of s history (Back actor leaf) next sound = step_still s history (Back actor leaf) refl sound
step_of s history (Put actor leaf by learned) next sound =
    step s history (Put actor leaf by learned) (λ l m. IsSound-more s.problem s.table (given_at history) [] l (AreSound-derived s.problem s.table (lines_at history) (given_at history) learned sound next.3 l m))

pub AreLinesSound-legal : (s : Setting) (history : History) → IsLegal s history → AreLinesSound s history
AreLinesSound-legal s history legal = legal_induction s (AreLinesSound s) (λ l m. absurd m) (λ before entry _ next sound. step_of s before entry next sound) history legal
