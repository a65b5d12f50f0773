-- The costs in the lines of a legal history have the table's length.
use Rattle.std.proofs.Common.{◌≡◌, ℕ, List, [], ◌∷◌, ◌++◌, true, ◌&&◌, refl, ap, ◌∙◌}
use Rattle.std.proofs.lemmas.Bool.{and_from, and_parts}
use Rattle.std.proofs.lemmas.List.Folds.{list_all-append}
use Rattle.resolver_model.specs.declared.lines.Line.{Line}
use Rattle.resolver_model.specs.declared.history.Reply.{Reply}
use Rattle.resolver_model.specs.declared.history.Reply.TheVariants.{Solution}
use Rattle.resolver_model.specs.declared.history.Entry.{Entry}
use Rattle.resolver_model.specs.declared.history.Entry.TheVariants.{Say, Take, Put, Back}
use Rattle.resolver_model.specs.Problems.{Problem, is_choice_set, is_consistent}
use Rattle.resolver_model.specs.Costs.{Table}
use Rattle.resolver_model.specs.Lines.{fits_table}
use Rattle.resolver_model.specs.Histories.{History, given_at, lines_at, lines_of, lines_of_reply}
use Rattle.resolver_model.specs.Answers.{Setting}
use Rattle.resolver_model.specs.Legal.{AreDerived, Follows, IsLegal}
use Rattle.laws_session.specs.Laws.{fit_table, DoLinesFit}
use Rattle.laws_session.proofs.Longer.{legal_induction}
use Rattle.laws_session.proofs.Effects.{lines_at-more}

pub fit_table-append : (table : Table) (lines more : List Line) → fit_table table lines ≡ true → fit_table table more ≡ true → fit_table table (lines ++ more) ≡ true
fit_table-append table lines more h k = list_all-append (λ (line : Line). fits_table table line.bound) lines more ∙ and_from (fit_table table lines) _ h k

pub fit-derived : (p : Problem) (table : Table) (lines : List Line) (given : List (List ℕ)) (learned : List Line) → AreDerived p table lines given learned → fit_table table learned ≡ true
fit-derived p table lines given [] d = refl
fit-derived p table lines given (line ∷ learned) d =
    let front = (and_parts (is_choice_set p line.set && is_consistent p line.set && fits_table table line.bound) _ d.0).0 in
    and_from (fits_table table line.bound) _ (and_parts (is_choice_set p line.set && is_consistent p line.set) (fits_table table line.bound) front).1 (fit-derived p table (lines ++ line ∷ []) given learned d.1)

fit-reply : (table : Table) (reply : Reply) → fit_table table (lines_of_reply reply) ≡ true
fit-reply table (Solution number set true) = refl
fit-reply table reply = refl

fit-entry : (s : Setting) (history : History) (entry : Entry) → Follows s history entry → fit_table s.table (lines_of entry) ≡ true
fit-entry s history (Say actor command reply) next = fit-reply s.table reply
fit-entry s history (Take actor leaf) next = refl
fit-entry s history (Put actor leaf by learned) next = fit-derived s.problem s.table (lines_at history) (given_at history) learned next.3
fit-entry s history (Back actor leaf) next = refl

pub DoLinesFit-legal : (s : Setting) (history : History) → IsLegal s history → DoLinesFit s history
DoLinesFit-legal s history legal =
    legal_induction s (DoLinesFit s) refl
    (λ before entry _ next fit. ap (fit_table s.table) (lines_at-more before entry) ∙ fit_table-append s.table (lines_at before) (lines_of entry) fit (fit-entry s before entry next)) history legal
