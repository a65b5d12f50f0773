-- Learning upwards from a leaf that is about to be split.
use Rattle.std.specs.Prelude.{◌≡◌, ◌<◌, ℕ, List, [], ◌++◌, length, IsTrue, Option, Some}
use Rattle.lists.specs.Sets.{is_subset}
use Rattle.resolver_model.specs.declared.lines.Line.{Line}
use Rattle.resolver_model.specs.declared.history.By.{By}
use Rattle.resolver_model.specs.declared.history.By.TheVariants.{Dep}
use Rattle.resolver_model.specs.declared.history.Entry.TheVariants.{Put}
use Rattle.resolver_model.specs.Histories.{History, given_at, lines_at}
use Rattle.resolver_model.specs.Births.{taken_at, above, split_at, split_after}
use Rattle.resolver_model.specs.Learning.{line_at, IsCarried}
use Rattle.resolver_model.specs.Answers.{Setting}
use Rattle.resolver_model.specs.Legal.{AreDerived}

-- how each leaf is split, once this one is split this way
abbrev pub way_of : History → ℕ → By → ℕ → Option By
way_of history leaf by n = split_after n (split_at history n) (Put 0 leaf by [])

-- The lines learned so far: each follows from those before it, the one at place i speaks of the leaf that is i splits above, and
-- at each of these leaves what its resolvers lead to is carried upwards.
pub record IsClimb (s : Setting) (history : History) (leaf : ℕ) (by : By) (lines : List Line) : Type 0 where
  pub derived : AreDerived s.problem s.table (lines_at history) (given_at history) lines
  pub places : (i : ℕ) → i < length lines → (node : ℕ) × (above s.problem history leaf i ≡ Some node) × IsTrue (is_subset (line_at lines i).set (taken_at s.problem history node))
  pub carried : (i node d : ℕ) → i < length lines → above s.problem history leaf i ≡ Some node → way_of history leaf by node ≡ Some (Dep d)
      → IsCarried s.problem s.table (lines_at history ++ lines) (taken_at s.problem history node) d

-- No line is needed at the next leaf above: there is none, or it is split by a choice, or what its resolvers lead to is known.
abbrev pub IsCarriedNext : Setting → History → ℕ → By → List Line → Type 0
IsCarriedNext s history leaf by lines = (node d : ℕ) → above s.problem history leaf (length lines) ≡ Some node → way_of history leaf by node ≡ Some (Dep d)
    → IsCarried s.problem s.table (lines_at history ++ lines) (taken_at s.problem history node) d
