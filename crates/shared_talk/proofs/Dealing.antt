-- The passes of a session that was just shared, and what they are when all have done.
use Rattle.std.proofs.Common.{◌≡◌, ◌≢◌, ◌==◌, ◌<◌, ◌||◌, ℕ, zero, suc, List, [], ◌∷◌, ◌++◌, Bool, true, false, refl, ap, sym, subst, ◌∙◌, arith}
use Rattle.std.specs.Prelude.{All}
use Rattle.std.specs.List.{AllZip}
use Rattle.std.proofs.lemmas.Bool.{eq-eqb}
use Rattle.std.proofs.lemmas.List.Elements.{All-nil, All-cons, All-append, All-head, All-tail}
use native.Mathlib.Decide.{ℕ_discrete}
use Rattle.resolver_model.specs.Histories.{out_at}
use Rattle.cell_rule.specs.Views.{entries_by, stands, Each}
use Rattle.session_cell.specs.Passes.{Cell, Pass, ArePassesOf, HasAll, hands_of, new_pass, passes_below, passes_from_one}
use Rattle.session_cell.proofs.PassLists.{first_and_others}
use Rattle.search_thread.specs.Slices.{CanWork, IsSame}
use Rattle.talk.specs.Ends.{commands_in}
use Rattle.shared_talk.specs.Turns.{CanAnswer, HasWorked}
use Rattle.shared_talk.specs.Passes.{IsQuietOther, AreDone}

-- a worker that has made nothing yet
pub record IsNewWorker (cell : Cell) (pass : Pass) : Type 0 where
  pub can : CanWork cell pass
  pub other : pass.hand.actor ≢ 0
  pub quiet : commands_in pass.hand.made ≡ []

new_worker : (cell : Cell) (n : ℕ) → cell.start.history ≡ [] → IsNewWorker cell (new_pass cell.table cell.stops cell.start (suc n))
new_worker cell n none =
    let made : entries_by (suc n) cell.start.history ≡ [] = ap (entries_by (suc n)) none in
    record {
      can = ((refl, refl, refl), ap (out_at (suc n)) made);
      other = λ e. omega (arith, e);
      quiet = ap commands_in made;
    }

new_workers : (cell : Cell) (n : ℕ) → cell.start.history ≡ [] → All (IsNewWorker cell) (passes_from_one cell.table cell.stops cell.start n)
new_workers cell zero none = All-nil (IsNewWorker cell)
new_workers cell (suc n) none =
    All-append (IsNewWorker cell) (passes_from_one cell.table cell.stops cell.start n) (new_pass cell.table cell.stops cell.start (suc n) ∷ []) (new_workers cell n none)
    (All-cons (IsNewWorker cell) (new_pass cell.table cell.stops cell.start (suc n)) [] (new_worker cell n none) (All-nil (IsNewWorker cell)))

-- ---- whom they stand for

stands_front : (actor : ℕ) (ps : List Pass) (p : Pass) → stands actor (hands_of ps) ≡ true → stands actor (hands_of (ps ++ p ∷ [])) ≡ true
stands_front actor [] p e = absurd (cc)
stands_front actor (q ∷ ps) p e = at (q.hand.actor == actor) (stands actor (hands_of ps)) (stands actor (hands_of (ps ++ p ∷ []))) (stands_front actor ps p) e
  where
    at : (b c d : Bool) → (c ≡ true → d ≡ true) → (b || c) ≡ true → (b || d) ≡ true
    at true c d f e = refl
    at false c d f e = f e

stands_last : (actor : ℕ) (ps : List Pass) (p : Pass) → p.hand.actor ≡ actor → stands actor (hands_of (ps ++ p ∷ [])) ≡ true
stands_last actor [] p e = ap (λ (b : Bool). b || false) (eq-eqb p.hand.actor actor e)
stands_last actor (q ∷ ps) p e = at (q.hand.actor == actor) (stands actor (hands_of (ps ++ p ∷ []))) (stands_last actor ps p e)
  where
    at : (b d : Bool) → d ≡ true → (b || d) ≡ true
    at true d e = refl
    at false d e = e

pub all_below : (cell : Cell) (n : ℕ) → HasAll n (passes_below cell.table cell.stops cell.start n)
all_below cell zero actor lt = absurd (omega (arith, lt))
all_below cell (suc n) actor lt = at (ℕ_discrete actor n) (λ below. all_below cell n actor below)
  where
    front : List Pass
    front = passes_below cell.table cell.stops cell.start n

    last : Pass
    last = new_pass cell.table cell.stops cell.start n

    at : Dec (actor ≡ n) → (actor < n → stands actor (hands_of front) ≡ true) → stands actor (hands_of (front ++ last ∷ [])) ≡ true
    at (yes same) before = stands_last actor front last (sym same)
    at (no other) before = stands_front actor front last (before (omega (arith, lt, other)))

-- ---- when all have done

same_stands : (actor : ℕ) (olds news : List Pass) → AllZip HasWorked olds news → stands actor (hands_of news) ≡ stands actor (hands_of olds)
same_stands actor [] [] zip = refl
same_stands actor [] (q ∷ qs) zip = absurd zip
same_stands actor (p ∷ ps) [] zip = absurd zip
same_stands actor (p ∷ ps) (q ∷ qs) zip = ap (λ (a : ℕ). (a == actor) || stands actor (hands_of qs)) zip.0.same.actor ∙ ap (λ (b : Bool). (p.hand.actor == actor) || b) (same_stands actor ps qs zip.1)

workers_of : (cell : Cell) (passes : List Pass) → All (CanWork cell) passes → ArePassesOf cell passes
workers_of cell [] can = tt
workers_of cell (p ∷ ps) can = ((All-head (CanWork cell) p ps can).0, workers_of cell ps (All-tail (CanWork cell) p ps can))

quiet_workers : (cell : Cell) (olds news : List Pass) → All (IsNewWorker cell) olds → AllZip HasWorked olds news → Each IsQuietOther (hands_of news)
quiet_workers cell [] [] new zip = tt
quiet_workers cell [] (q ∷ qs) new zip = absurd zip
quiet_workers cell (p ∷ ps) [] new zip = absurd zip
quiet_workers cell (p ∷ ps) (q ∷ qs) new zip =
    ((λ other. zip.0.quiet ∙ (All-head (IsNewWorker cell) p ps new).quiet), quiet_workers cell ps qs (All-tail (IsNewWorker cell) p ps new) zip.1)

can_new : (cell : Cell) (passes : List Pass) → All (IsNewWorker cell) passes → All (CanWork cell) passes
can_new cell passes new k d lt = (new k d lt).can

-- what the first pass and the others are
pub record AreDealt (cell : Cell) (talker : Pass) (workers : List Pass) : Type 0 where
  pub talker_is : talker ≡ new_pass cell.table cell.stops cell.start 0
  pub new : All (IsNewWorker cell) workers

pub dealt : (cell : Cell) (actors : ℕ) (talker : Pass) (workers : List Pass) → cell.start.history ≡ [] → talker ∷ workers ≡ passes_below cell.table cell.stops cell.start actors → AreDealt cell talker workers
dealt cell zero talker workers none is = absurd (cc)
dealt cell (suc n) talker workers none is =
    let both : talker ∷ workers ≡ new_pass cell.table cell.stops cell.start 0 ∷ passes_from_one cell.table cell.stops cell.start n = is ∙ sym (first_and_others cell.table cell.stops cell.start n) in
    let rest : workers ≡ passes_from_one cell.table cell.stops cell.start n = cc in
    record { talker_is = cc; new = subst (All (IsNewWorker cell)) (sym rest) (new_workers cell n none) }

pub can_answer : (cell : Cell) (talker : Pass) (workers : List Pass) → cell.start.history ≡ [] → AreDealt cell talker workers → CanAnswer cell talker
can_answer cell talker workers none d =
    let first = new_pass cell.table cell.stops cell.start 0 in
    let made : entries_by 0 cell.start.history ≡ [] = ap (entries_by 0) none in
    subst (CanAnswer cell) (sym d.talker_is) (record { of_cell = (refl, refl, refl); talker = refl; idle = ap (out_at 0) made })

pub made_nothing : (cell : Cell) (talker : Pass) (workers : List Pass) → cell.start.history ≡ [] → AreDealt cell talker workers → talker.hand.made ≡ []
made_nothing cell talker workers none d = ap (λ (p : Pass). p.hand.made) d.talker_is ∙ ap (entries_by 0) none

pub no_stop : (cell : Cell) (talker : Pass) (workers : List Pass) → AreDealt cell talker workers → talker.stop ≡ 0
no_stop cell talker workers d = ap (λ (p : Pass). p.stop) d.talker_is

pub can_work : (cell : Cell) (talker : Pass) (workers : List Pass) → AreDealt cell talker workers → All (CanWork cell) workers
can_work cell talker workers d = can_new cell workers d.new

-- the passes may be taken in
pub done : (cell : Cell) (first talker : Pass) (olds news : List Pass) → first ∷ olds ≡ passes_below cell.table cell.stops cell.start cell.start.setting.actors → AreDealt cell first olds
    → IsSame first talker → CanAnswer cell talker → AllZip HasWorked olds news → All (CanWork cell) news → AreDone cell (talker ∷ news)
done cell first talker olds news is d same ready zip can = record {
  of_cell = (ready.of_cell, workers_of cell news can);
  all = λ actor lt.
      let before : stands actor (hands_of (first ∷ olds)) ≡ true = ap (λ (ps : List Pass). stands actor (hands_of ps)) is ∙ all_below cell cell.start.setting.actors actor lt in
      ap (λ (a : ℕ). (a == actor) || stands actor (hands_of news)) same.actor ∙ ap (λ (b : Bool). (first.hand.actor == actor) || b) (same_stands actor olds news zip) ∙ before;
  quiet = ((λ other. absurd (other ready.talker)), quiet_workers cell olds news d.new zip);
}
