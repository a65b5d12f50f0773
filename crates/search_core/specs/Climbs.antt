-- Learning upwards, as `put` does it.
use Rattle.std.specs.Prelude.{◌≡◌, ◌<◌, ◌≤◌, ◌+◌, ℕ, Bool, true, ◌&&◌, List, ◌++◌, length, IsTrue, Option, Some, None}
use Rattle.resolver_model.specs.declared.lines.Bound.{Bound}
use Rattle.resolver_model.specs.declared.lines.Bound.TheVariants.{Cost}
use Rattle.resolver_model.specs.declared.lines.Line.{Line}
use Rattle.resolver_model.specs.declared.history.By.{By}
use Rattle.resolver_model.specs.declared.history.By.TheVariants.{Dep}
use Rattle.resolver_model.specs.declared.history.Entry.TheVariants.{Put}
use Rattle.resolver_model.specs.Problems.{Problem, dependency_count, is_open}
use Rattle.resolver_model.specs.Costs.{Table, cost}
use Rattle.resolver_model.specs.Histories.{History, given_at, lines_at}
use Rattle.resolver_model.specs.Births.{births_at, taken_at, above, split_at}
use Rattle.resolver_model.specs.Learning.{LearnsUpwards}
use Rattle.resolver_model.specs.Answers.{Setting}
use Rattle.resolver_model.specs.Legal.{IsSetting, IsLegal, AreDerived}
use Rattle.promotions.specs.Strongest.{is_over, bound_for}
use Rattle.laws_session.specs.Climbs.{way_of, IsClimb, IsCarriedNext}
use Rattle.frontier.specs.Stores.{Store, kept_at}
use Rattle.search_core.specs.Stores.{places_of, ArePlacesOf}
use Rattle.search_core.specs.declared.learning.Rung.{Rung}
use Rattle.search_core.specs.declared.learning.Climb.{Climb}

abbrev pub is_over_some : Bound → Option Bound → Bool
is_over_some bound None = true
is_over_some bound (Some other) = is_over bound other

-- A line is worth adding if its bound is greater than the cost of a taken list, and than each bound held for it.
abbrev pub is_worth : Table → List Line → List ℕ → Line → Bool
is_worth table lines taken line = is_over line.bound (Cost (cost table taken)) && is_over_some line.bound (bound_for lines taken)

abbrev pub rung_by : ℕ → Option By → Option Rung
rung_by leaf (Some (Dep d)) = Some (record { leaf = leaf; dep = d })
rung_by leaf _ = None

abbrev pub rung_of : History → Option ℕ → Option Rung
rung_of history None = None
rung_of history (Some leaf) = rung_by leaf (split_at history leaf)

-- the leaf that a leaf was split from, if that was by a dependency
abbrev pub rung_above : Store → History → ℕ → Option Rung
rung_above store history leaf = rung_of history (kept_at store leaf).parent

-- how far it is to leaf 0 at most
abbrev pub height : Option Rung → ℕ
height None = 0
height (Some rung) = rung.leaf + 1

-- The world in which lines are learned: a legal history, and its leaves in the store.
pub record IsClimbable (s : Setting) (history : History) (p : Problem) (table : Table) (store : Store) : Type 0 where
  pub setting : IsSetting s
  pub legal : IsLegal s history
  pub places : ArePlacesOf s history (places_of store.kept)
  pub same_problem : s.problem ≡ p
  pub same_table : s.table ≡ table

-- The leaf that is looked at next: so many splits above the first as there are lines, and split by its dependency, which is
-- open there.
pub record IsRung (s : Setting) (history : History) (start : Rung) (lines : List Line) (rung : Rung) : Type 0 where
  pub at : above s.problem history start.leaf (length lines) ≡ Some rung.leaf
  pub high : rung.leaf ≤ start.leaf
  pub way : way_of history start.leaf (Dep start.dep) rung.leaf ≡ Some (Dep rung.dep)
  pub range : rung.dep < dependency_count s.problem
  pub opened : IsTrue (is_open s.problem (taken_at s.problem history rung.leaf) rung.dep)

abbrev pub IsNext : Setting → History → Rung → List Line → Option Rung → Type 0
IsNext s history start lines (Some rung) = IsRung s history start lines rung
IsNext s history start lines None = IsCarriedNext s history start.leaf (Dep start.dep) lines

-- A climb on its way: the lines held are those of the history and those learned on it.
pub record IsAt (s : Setting) (history : History) (learned : List Line) (climb : Climb) : Type 0 where
  pub low : climb.start.leaf < length (births_at s.problem history)
  pub all : learned ≡ lines_at history ++ climb.lines
  pub climb_is : IsClimb s history climb.start.leaf (Dep climb.start.dep) climb.lines
  pub next : IsNext s history climb.start climb.lines climb.next

-- What a split learned: each line follows from those before it, and what is known is carried upwards.
pub record IsLearned (s : Setting) (history : History) (leaf : ℕ) (by : By) (lines : List Line) : Type 0 where
  pub derived : AreDerived s.problem s.table (lines_at history) (given_at history) lines
  pub learns : (actor : ℕ) → LearnsUpwards s history (Put actor leaf by lines)
