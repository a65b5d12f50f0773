-- Learning upwards: the leaf where it begins, a step, and its end.
use Rattle.std.proofs.Common.{inl, inr, ◌≡◌, ◌⊎◌, ◌<◌, ◌≤◌, ◌+◌, ℕ, List, [], ◌∷◌, ◌++◌, Bool, true, false, ◌&&◌, cond, Some, None, Option, refl, ap, sym, subst, ◌∙◌, arith, length, length-append, append-nil, append_assoc, suc, nat_lt, eq-eqb, ne_eqb}
use Rattle.std.specs.List.{list_all, list_any}
use Rattle.std.proofs.lemmas.Bool.{cases_Bool, and_from, and_parts, or_cases, or_left, or_right, not-false, not_from_false}
use Rattle.lists.specs.Sets.{is_subset, is_rising}
use Rattle.lists.proofs.Tests.{list_all_weaker}
use Rattle.resolver_model.specs.declared.lines.Bound.{Bound}
use Rattle.resolver_model.specs.declared.lines.Bound.TheVariants.{Cost}
use Rattle.resolver_model.specs.declared.lines.Line.{Line}
use Rattle.resolver_model.specs.declared.node.Node.{Node}
use Rattle.resolver_model.specs.declared.history.By.{By}
use Rattle.resolver_model.specs.declared.history.By.TheVariants.{Dep, Choice}
use Rattle.resolver_model.specs.Problems.{Problem, dependency_count, version_count, is_choice, is_choice_set, is_consistent, is_open}
use Rattle.resolver_model.specs.Costs.{Table, cost}
use Rattle.resolver_model.specs.Lines.{is_at_most, is_bounded_by, is_derived}
use Rattle.resolver_model.specs.Histories.{History, given_at, lines_at}
use Rattle.resolver_model.specs.Births.{birth, births_at, taken_at, parent_at, parent_of, above, split_at}
use Rattle.resolver_model.specs.Answers.{Setting}
use Rattle.resolver_model.specs.Legal.{CanSplit, IsLegal}
use Rattle.promotions.specs.Strongest.{is_over, bound_for, IsStrongest}
use Rattle.promotions.proofs.BoundOrder.{IsStrongest-bound_for}
use Rattle.resolver_model.specs.Learning.{IsCarried}
use Rattle.laws_session.specs.Laws.{IsStrong, fit_table}
use Rattle.laws_session.specs.Climbs.{way_of, IsCarriedNext}
use Rattle.laws_session.proofs.Births.{AreBirths-legal}
use Rattle.laws_session.proofs.Fitting.{DoLinesFit-legal, fit-derived, fit_table-append}
use Rattle.laws_session.proofs.Opened.{AreSplitsOpen-legal}
use Rattle.laws_session.proofs.Learning.{IsCarried-stopped}
use Rattle.resolver_model.proofs.Soundness.{is_at_most-trans}
use Rattle.laws_session.proofs.Climbing.{IsClimb-more, LearnsFrom-climb}
use Rattle.frontier.specs.Stores.{Store, kept_at}
use Rattle.search_core.specs.Stores.{Place, places_of}
use Rattle.search_core.specs.Climbs.{is_worth, is_over_some, rung_by, rung_of, rung_above, height, IsClimbable, IsRung, IsNext, IsAt, IsLearned}
use Rattle.search_core.specs.declared.learning.Rung.{Rung}
use Rattle.search_core.specs.declared.learning.Climb.{Climb}
use Rattle.search_core.proofs.Bridge.{place_same, length-places_of}
use Rattle.search_core.proofs.Known.{choice_low}

-- The climb before its first step.
pub IsAt-first : (s : Setting) (history : History) (learned : List Line) (start : Rung) → learned ≡ lines_at history → start.leaf < length (births_at s.problem history) → CanSplit s.problem (birth (births_at s.problem history) start.leaf).node (Dep start.dep)
    → IsAt s history learned (record { start = start; next = Some start; lines = [] })
IsAt-first s history learned start all low can = record {
  low = low;
  all = all ∙ sym (append-nil (lines_at history));
  climb_is = record { derived = tt; places = λ i lt. absurd (omega arith); carried = λ i n d lt up split. absurd (omega arith) };
  next = record {
    at = refl;
    high = omega arith;
    way = ap (λ b. cond b (Some (Dep start.dep)) (split_at history start.leaf)) (eq-eqb start.leaf start.leaf refl);
    range = can.0;
    opened = can.1;
  };
}

-- What is said of a place of the store.
pub place_low : (s : Setting) (history : History) (p : Problem) (table : Table) (store : Store) (n : ℕ) → IsClimbable s history p table store → n < length (births_at s.problem history) → n < length (places_of store.kept)
place_low s history p table store n w lt = let count = w.places.count in omega (arith, count, lt)

pub kept_low : (s : Setting) (history : History) (p : Problem) (table : Table) (store : Store) (n : ℕ) → IsClimbable s history p table store → n < length (births_at s.problem history) → n < length store.kept
kept_low s history p table store n w lt = let size : length (places_of store.kept) ≡ length store.kept = length-places_of store.kept in let low = place_low s history p table store n w lt in omega (arith, size, low)

pub taken_same : (s : Setting) (history : History) (p : Problem) (table : Table) (store : Store) (n : ℕ) → IsClimbable s history p table store → n < length (births_at s.problem history) → (kept_at store n).node.taken ≡ taken_at s.problem history n
taken_same s history p table store n w lt = ap (λ (x : Place). x.node.taken) (sym (place_same store.kept n)) ∙ ap (λ (x : Node). x.taken) (w.places.nodes n (place_low s history p table store n w lt))

pub parent_same : (s : Setting) (history : History) (p : Problem) (table : Table) (store : Store) (n : ℕ) → IsClimbable s history p table store → n < length (births_at s.problem history) → (kept_at store n).parent ≡ parent_at s.problem history n
parent_same s history p table store n w lt = ap (λ (x : Place). x.parent) (sym (place_same store.kept n)) ∙ w.places.parents n (place_low s history p table store n w lt)

-- The choices that a leaf takes have a place in the table.
pub choices_low : (s : Setting) (history : History) (p : Problem) (table : Table) (store : Store) (n : ℕ) → IsClimbable s history p table store → n < length (births_at s.problem history) → list_all (λ c. nat_lt c table.choices) (taken_at s.problem history n) ≡ true
choices_low s history p table store n w lt =
    let node = (AreBirths-legal s history w.legal).nodes n lt in
    let base = list_all_weaker (is_choice s.problem) (λ c. nat_lt c (version_count s.problem + dependency_count s.problem)) (choice_low s.problem) (taken_at s.problem history n) (and_parts (is_rising (taken_at s.problem history n)) _ node.taken).1 in
    let C : ℕ → Type 0 = λ m. list_all (λ c. nat_lt c m) (taken_at s.problem history n) ≡ true in
    subst C (sym w.setting.table ∙ ap (λ (t : Table). t.choices) w.same_table) base

-- The costs of the lines held have the table's length.
pub held_fit : (s : Setting) (history : History) (p : Problem) (table : Table) (store : Store) (learned : List Line) (climb : Climb) → IsClimbable s history p table store → IsAt s history learned climb → fit_table table learned ≡ true
held_fit s history p table store learned climb w at =
    let L : List Line → Type 0 = λ lines. fit_table s.table lines ≡ true in
    let T : Table → Type 0 = λ t. fit_table t learned ≡ true in
    subst T w.same_table (subst L (sym at.all) (fit_table-append s.table (lines_at history) climb.lines (DoLinesFit-legal s history w.legal) (fit-derived s.problem s.table (lines_at history) (given_at history) climb.lines at.climb_is.derived)))

-- A line that is not worth adding is no stronger than what is known.
pub not_worth : (table : Table) (lines : List Line) (taken : List ℕ) (line : Line) → is_worth table lines taken line ≡ false → (is_at_most line.bound (Cost (cost table taken)) ≡ true) ⊎ (is_bounded_by lines taken line.bound ≡ true)
not_worth table lines taken line h =
    elim (cases_Bool (is_at_most line.bound (Cost (cost table taken)))) as (λ _. (is_at_most line.bound (Cost (cost table taken)) ≡ true) ⊎ (is_bounded_by lines taken line.bound ≡ true)) [
      | inl low ↦ inl low
      | inr high ↦
          let rest : is_over_some line.bound (bound_for lines taken) ≡ false = second (is_over line.bound (Cost (cost table taken))) _ h (not_from_false _ high) in
          inr (held (bound_for lines taken) rest (IsStrongest-bound_for lines taken))
    ]
  where
    second : (a b : Bool) → (a && b) ≡ false → a ≡ true → b ≡ false
    second true b e f = e
    second false b e f = absurd (cc)

    up : (ls : List Line) (bound : Bound) → is_at_most line.bound bound ≡ true → list_any (λ (l : Line). is_subset l.set taken && (is_at_most l.bound bound && is_at_most bound l.bound)) ls ≡ true → is_bounded_by ls taken line.bound ≡ true
    up [] bound e f = absurd (cc)
    up (l ∷ ls) bound e f =
        elim (or_cases (is_subset l.set taken && (is_at_most l.bound bound && is_at_most bound l.bound)) (list_any (λ (x : Line). is_subset x.set taken && (is_at_most x.bound bound && is_at_most bound x.bound)) ls) f) as (λ _. is_bounded_by (l ∷ ls) taken line.bound ≡ true) [
          | inl here ↦
              let parts = and_parts (is_subset l.set taken) (is_at_most l.bound bound && is_at_most bound l.bound) here in
              let two = and_parts (is_at_most l.bound bound) (is_at_most bound l.bound) parts.1 in
              or_left (is_subset l.set taken && is_at_most line.bound l.bound) _ (and_from (is_subset l.set taken) _ parts.0 (is_at_most-trans line.bound bound l.bound e two.1))
          | inr there ↦ or_right (is_subset l.set taken && is_at_most line.bound l.bound) _ (up ls bound e there)
        ]

    held : (found : Option Bound) → is_over_some line.bound found ≡ false → IsStrongest lines taken found → is_bounded_by lines taken line.bound ≡ true
    held None e f = absurd (cc)
    held (Some bound) e f = up lines bound (not-false _ e) f.0

-- A climb ends where the line is not worth adding.
pub IsAt-stopped : (s : Setting) (history : History) (learned : List Line) (climb : Climb) (rung : Rung) (line : Line) → IsAt s history learned climb → climb.next ≡ Some rung → IsStrong s.problem learned (taken_at s.problem history rung.leaf) rung.dep line
    → is_worth s.table learned (taken_at s.problem history rung.leaf) line ≡ false → IsAt s history learned (record { start = climb.start; next = None; lines = climb.lines })
IsAt-stopped s history learned climb rung line at is strong stop =
    let N : Option Rung → Type 0 = λ next. IsNext s history climb.start climb.lines next in
    let r : IsRung s history climb.start climb.lines rung = subst N is at.next in
    let carried = IsCarried-stopped s.problem s.table learned line (taken_at s.problem history rung.leaf) rung.dep strong (not_worth s.table learned (taken_at s.problem history rung.leaf) line stop) in
    record {
      low = at.low;
      all = at.all;
      climb_is = at.climb_is;
      next = λ n d up way.
          let there : Some n ≡ Some rung.leaf = sym up ∙ r.at in
          let same : rung.leaf ≡ n = cc in
          let ways : Some (Dep d) ≡ Some (Dep rung.dep) = sym way ∙ ap (way_of history climb.start.leaf (Dep climb.start.dep)) (sym same) ∙ r.way in
          let dep : rung.dep ≡ d = cc in
          let K : List Line → ℕ → ℕ → Type 0 = λ known m e. IsCarried s.problem s.table known (taken_at s.problem history m) e in
          let P : List Line → Type 0 = λ known. K known n d in
          let Q : ℕ → Type 0 = λ m. K learned m d in
          let R : ℕ → Type 0 = λ e. K learned rung.leaf e in
          subst P at.all (subst Q same (subst R dep carried));
    }

-- A leaf below the one that is about to be split was split as it was.
old_way : (history : History) (leaf : ℕ) (by : By) (n : ℕ) → n < leaf → way_of history leaf by n ≡ split_at history n
old_way history leaf by n lt = ap (λ r. cond r (Some by) (split_at history n)) (ne_eqb leaf n (λ e. omega (arith, lt, e)))

-- no leaf is carried to where the one above was not split by a dependency
none_by : (s : Setting) (history : History) (start : Rung) (more : List Line) (n : ℕ) → n < start.leaf → above s.problem history start.leaf (length more) ≡ Some n → ((d : ℕ) → split_at history n ≡ Some (Dep d) → ⊥) → IsCarriedNext s history start.leaf (Dep start.dep) more
none_by s history start more n lt at no_dep m d up split =
    let there : Some n ≡ Some m = sym at ∙ up in
    let same : n ≡ m = cc in
    absurd (no_dep d (sym (old_way history start.leaf (Dep start.dep) n lt) ∙ ap (way_of history start.leaf (Dep start.dep)) same ∙ split))

by_way : (s : Setting) (history : History) (start : Rung) (more : List Line) (n : ℕ) (way : Option By) → IsLegal s history → n < start.leaf → above s.problem history start.leaf (length more) ≡ Some n → split_at history n ≡ way → IsNext s history start more (rung_by n way)
by_way s history start more n None legal lt at e = none_by s history start more n lt at (λ d f. let g : None ≡ Some (Dep d) = sym e ∙ f in cc)
by_way s history start more n (Some (Choice a)) legal lt at e = none_by s history start more n lt at (λ d f. let g : Some (Choice a) ≡ Some (Dep d) = sym e ∙ f in cc)
by_way s history start more n (Some (Dep d)) legal lt at e =
    let o = AreSplitsOpen-legal s history legal n d e in
    record { at = at; high = omega (arith, lt); way = old_way history start.leaf (Dep start.dep) n lt ∙ e; range = o.0; opened = o.1 }

by_parent : (s : Setting) (history : History) (start : Rung) (more : List Line) (leaf : ℕ) (parent : Option ℕ) → IsLegal s history → leaf < length (births_at s.problem history) → leaf ≤ start.leaf → parent_at s.problem history leaf ≡ parent → above s.problem history start.leaf (length more) ≡ parent
    → IsNext s history start more (rung_of history parent)
by_parent s history start more leaf None legal low high e at = λ m d up split. let f : None ≡ Some m = sym at ∙ up in absurd (cc)
by_parent s history start more leaf (Some n) legal low high e at =
    let lt = ((AreBirths-legal s history legal).parents leaf n low e).0 in
    by_way s history start more n (split_at history n) legal (omega (arith, lt, high)) at refl

-- The leaf above, where there is one that was split by a dependency.
pub next_above : (s : Setting) (history : History) (p : Problem) (table : Table) (store : Store) (start : Rung) (lines more : List Line) (rung : Rung) → IsClimbable s history p table store → start.leaf < length (births_at s.problem history) → IsRung s history start lines rung → length more ≡ length lines + 1
    → IsNext s history start more (rung_above store history rung.leaf)
next_above s history p table store start lines more rung w low r size =
    let high = r.high in
    let lt : rung.leaf < length (births_at s.problem history) = omega (arith, low, high) in
    let one : length more ≡ suc (length lines) = omega (arith, size) in
    let up : above s.problem history start.leaf (length more) ≡ parent_at s.problem history rung.leaf = ap (above s.problem history start.leaf) one ∙ ap (parent_of s.problem history) r.at in
    let P : Option ℕ → Type 0 = λ parent. IsNext s history start more (rung_of history parent) in
    subst P (sym (parent_same s history p table store rung.leaf w lt)) (by_parent s history start more rung.leaf (parent_at s.problem history rung.leaf) w.legal lt high refl up)

-- One line more, and one leaf up.
pub IsAt-more : (s : Setting) (history : History) (p : Problem) (table : Table) (store : Store) (learned now : List Line) (climb : Climb) (rung : Rung) (line : Line) → IsClimbable s history p table store → IsAt s history learned climb → climb.next ≡ Some rung
    → is_subset line.set (taken_at s.problem history rung.leaf) ≡ true → is_derived s.problem s.table learned (given_at history) line ≡ true → IsStrong s.problem learned (taken_at s.problem history rung.leaf) rung.dep line → now ≡ learned ++ line ∷ []
    → IsAt s history now (record { start = climb.start; next = rung_above store history rung.leaf; lines = climb.lines ++ line ∷ [] })
IsAt-more s history p table store learned now climb rung line w at is within derived strong more =
    let N : Option Rung → Type 0 = λ next. IsNext s history climb.start climb.lines next in
    let r : IsRung s history climb.start climb.lines rung = subst N is at.next in
    let D : List Line → Type 0 = λ known. is_derived s.problem s.table known (given_at history) line ≡ true in
    let S : List Line → Type 0 = λ known. IsStrong s.problem known (taken_at s.problem history rung.leaf) rung.dep line in
    record {
      low = at.low;
      all = more ∙ ap (λ lines. lines ++ line ∷ []) at.all ∙ append_assoc (lines_at history) climb.lines (line ∷ []);
      climb_is = IsClimb-more s history climb.start.leaf (Dep climb.start.dep) climb.lines rung.leaf rung.dep line w.legal at.low at.climb_is r.at r.way within (subst D at.all derived) (subst S at.all strong);
      next = next_above s history p table store climb.start climb.lines (climb.lines ++ line ∷ []) rung w at.low r (length-append climb.lines (line ∷ []));
    }

-- The leaf above is lower.
pub lower_above : (s : Setting) (history : History) (p : Problem) (table : Table) (store : Store) (learned : List Line) (climb : Climb) (rung : Rung) → IsClimbable s history p table store → IsAt s history learned climb → climb.next ≡ Some rung → height (rung_above store history rung.leaf) < height climb.next
lower_above s history p table store learned climb rung w at is =
    let N : Option Rung → Type 0 = λ next. IsNext s history climb.start climb.lines next in
    let r : IsRung s history climb.start climb.lines rung = subst N is at.next in
    let high = r.high in
    let low = at.low in
    let lt : rung.leaf < length (births_at s.problem history) = omega (arith, low, high) in
    let H : Option Rung → Type 0 = λ next. height (rung_above store history rung.leaf) < height next in
    let P : Option ℕ → Type 0 = λ parent. height (rung_of history parent) < rung.leaf + 1 in
    subst H (sym is) (subst P (sym (parent_same s history p table store rung.leaf w lt)) (by_height (parent_at s.problem history rung.leaf) (λ n e. ((AreBirths-legal s history w.legal).parents rung.leaf n lt e).0)))
  where
    way_height : (n : ℕ) (way : Option By) → n < rung.leaf → height (rung_by n way) < rung.leaf + 1
    way_height n None lt = omega arith
    way_height n (Some (Choice a)) lt = omega arith
    way_height n (Some (Dep d)) lt = omega (arith, lt)

    by_height : (parent : Option ℕ) → ((n : ℕ) → parent ≡ Some n → n < rung.leaf) → height (rung_of history parent) < rung.leaf + 1
    by_height None h = omega arith
    by_height (Some n) h = way_height n (split_at history n) (h n refl)

-- the leaf that is looked at was given
pub rung_low : (s : Setting) (history : History) (learned : List Line) (climb : Climb) (rung : Rung) → IsAt s history learned climb → climb.next ≡ Some rung → rung.leaf < length (births_at s.problem history)
rung_low s history learned climb rung at is =
    let N : Option Rung → Type 0 = λ next. IsNext s history climb.start climb.lines next in
    let r : IsRung s history climb.start climb.lines rung = subst N is at.next in
    let high = r.high in
    let low = at.low in
    omega (arith, low, high)

pub rung_is : (s : Setting) (history : History) (learned : List Line) (climb : Climb) (rung : Rung) → IsAt s history learned climb → climb.next ≡ Some rung → IsRung s history climb.start climb.lines rung
rung_is s history learned climb rung at is = let N : Option Rung → Type 0 = λ next. IsNext s history climb.start climb.lines next in subst N is at.next

-- A climb at its end has learned what the split has to learn.
pub IsLearned-end : (s : Setting) (history : History) (learned : List Line) (climb : Climb) → IsLegal s history → IsAt s history learned climb → climb.next ≡ None → IsLearned s history climb.start.leaf (Dep climb.start.dep) climb.lines
IsLearned-end s history learned climb legal at is =
    let N : Option Rung → Type 0 = λ next. IsNext s history climb.start climb.lines next in
    record {
      derived = at.climb_is.derived;
      learns = λ actor. LearnsFrom-climb s history actor climb.start.leaf (Dep climb.start.dep) climb.lines legal at.low at.climb_is (subst N is at.next);
    }

-- What `derive` asks of the leaf that is looked at.
pub record IsHeldAt (p : Problem) (table : Table) (learned : List Line) (taken : List ℕ) (d : ℕ) : Type 0 where
  pub choices : is_choice_set p taken ≡ true
  pub consistent : is_consistent p taken ≡ true
  pub opened : is_open p taken d ≡ true
  pub fit : fit_table table learned ≡ true
  pub low : list_all (λ c. nat_lt c table.choices) taken ≡ true

pub IsHeldAt-rung : (s : Setting) (history : History) (p : Problem) (table : Table) (store : Store) (learned : List Line) (climb : Climb) (rung : Rung) (taken : List ℕ) → IsClimbable s history p table store → IsAt s history learned climb → climb.next ≡ Some rung → taken ≡ (kept_at store rung.leaf).node.taken
    → IsHeldAt p table learned taken rung.dep
IsHeldAt-rung s history p table store learned climb rung taken w at is e =
    let low = rung_low s history learned climb rung at is in
    let r = rung_is s history learned climb rung at is in
    let node = (AreBirths-legal s history w.legal).nodes rung.leaf low in
    let same : taken ≡ taken_at s.problem history rung.leaf = e ∙ taken_same s history p table store rung.leaf w low in
    let X : List ℕ → Type 0 = λ xs. IsHeldAt p table learned xs rung.dep in
    let Q : Problem → Type 0 = λ q. (is_choice_set q (taken_at s.problem history rung.leaf) ≡ true) × (is_consistent q (taken_at s.problem history rung.leaf) ≡ true) × (is_open q (taken_at s.problem history rung.leaf) rung.dep ≡ true) in
    let facts = subst Q w.same_problem (node.taken, node.consistent, r.opened) in
    subst X (sym same) (record {
      choices = facts.0;
      consistent = facts.1;
      opened = facts.2;
      fit = held_fit s history p table store learned climb w at;
      low = choices_low s history p table store rung.leaf w low;
    })

-- What the derived line is, said of the setting.
strong_at : (s : Setting) (history : History) (p : Problem) (learned : List Line) (leaf d : ℕ) (line : Line) (taken : List ℕ) → p ≡ s.problem → taken ≡ taken_at s.problem history leaf → IsStrong p learned taken d line → IsStrong s.problem learned (taken_at s.problem history leaf) d line
strong_at s history p learned leaf d line taken e f h =
    let X : List ℕ → Type 0 = λ xs. IsStrong p learned xs d line in
    let Q : Problem → Type 0 = λ q. IsStrong q learned (taken_at s.problem history leaf) d line in
    subst Q e (subst X f h)

pub stopped_at : (s : Setting) (history : History) (p : Problem) (table : Table) (store : Store) (learned : List Line) (climb : Climb) (rung : Rung) (line : Line) (taken : List ℕ) → IsClimbable s history p table store → IsAt s history learned climb → climb.next ≡ Some rung → taken ≡ (kept_at store rung.leaf).node.taken
    → IsStrong p learned taken rung.dep line → is_worth table learned taken line ≡ false → IsAt s history learned (record { start = climb.start; next = None; lines = climb.lines })
stopped_at s history p table store learned climb rung line taken w at is e strong stop =
    let low = rung_low s history learned climb rung at is in
    let same : taken ≡ taken_at s.problem history rung.leaf = e ∙ taken_same s history p table store rung.leaf w low in
    let W : Table → Type 0 = λ t. is_worth t learned (taken_at s.problem history rung.leaf) line ≡ false in
    let V : List ℕ → Type 0 = λ xs. is_worth table learned xs line ≡ false in
    IsAt-stopped s history learned climb rung line at is (strong_at s history p learned rung.leaf rung.dep line taken (sym w.same_problem) same strong) (subst W (sym w.same_table) (subst V same stop))

pub more_at : (s : Setting) (history : History) (p : Problem) (table : Table) (store : Store) (learned now lines : List Line) (climb : Climb) (rung : Rung) (line : Line) (taken : List ℕ) (next : Option Rung) → IsClimbable s history p table store → IsAt s history learned climb → climb.next ≡ Some rung → taken ≡ (kept_at store rung.leaf).node.taken
    → is_subset line.set taken ≡ true → is_derived p table learned (given_at history) line ≡ true → IsStrong p learned taken rung.dep line → now ≡ learned ++ line ∷ [] → lines ≡ climb.lines ++ line ∷ [] → next ≡ rung_above store history rung.leaf
    → IsAt s history now (record { start = climb.start; next = next; lines = lines })
more_at s history p table store learned now lines climb rung line taken next w at is e within derived strong more all up =
    let low = rung_low s history learned climb rung at is in
    let same : taken ≡ taken_at s.problem history rung.leaf = e ∙ taken_same s history p table store rung.leaf w low in
    let X : List ℕ → Type 0 = λ xs. is_subset line.set xs ≡ true in
    let D : Problem → Type 0 = λ q. is_derived q table learned (given_at history) line ≡ true in
    let T : Table → Type 0 = λ t. is_derived s.problem t learned (given_at history) line ≡ true in
    let base = IsAt-more s history p table store learned now climb rung line w at is (subst X same within) (subst T (sym w.same_table) (subst D (sym w.same_problem) derived)) (strong_at s history p learned rung.leaf rung.dep line taken (sym w.same_problem) same strong) more in
    let L : List Line → Type 0 = λ ls. IsAt s history now (record { start = climb.start; next = rung_above store history rung.leaf; lines = ls }) in
    let N : Option Rung → Type 0 = λ n. IsAt s history now (record { start = climb.start; next = n; lines = lines }) in
    subst N (sym up) (subst L (sym all) base)
