-- What a split has to learn.
use Rattle.std.specs.Prelude.{◌≡◌, ◌<◌, ◌≤◌, ℕ, List, [], ◌∷◌, ◌++◌, length, slice_index_or, IsTrue, IsFalse, Some, ⊤}
use Rattle.std.specs.List.{list_all}
use Rattle.lists.specs.Sets.{with, is_subset}
use Rattle.resolver_model.specs.declared.lines.Bound.{Bound}
use Rattle.resolver_model.specs.declared.lines.Bound.TheVariants.{Cost}
use Rattle.resolver_model.specs.declared.lines.Line.{Line}
use Rattle.resolver_model.specs.declared.history.By.TheVariants.{Dep}
use Rattle.resolver_model.specs.declared.history.Entry.{Entry}
use Rattle.resolver_model.specs.declared.history.Entry.TheVariants.{Put}
use Rattle.resolver_model.specs.Problems.{Problem, resolvers}
use Rattle.resolver_model.specs.Costs.{Table, cost}
use Rattle.resolver_model.specs.Lines.{is_at_most, is_bounded_by}
use Rattle.resolver_model.specs.Histories.{History, given_line, lines_at}
use Rattle.resolver_model.specs.Births.{taken_at, above, split_at}
use Rattle.resolver_model.specs.Answers.{Setting}

abbrev pub line_at : List Line → ℕ → Line
line_at lines place = slice_index_or lines place (given_line [])

-- Where a bound is greater than the cost of a taken list, and each resolver of a dependency there leads to it by a line that
-- is known, a known line has it for the taken list itself.
abbrev pub IsCarried : Problem → Table → List Line → List ℕ → ℕ → Type 0
IsCarried p table known taken d = (bound : Bound) → IsFalse (is_at_most bound (Cost (cost table taken)))
    → IsTrue (list_all (λ r. is_bounded_by known (with taken r) bound) (resolvers p taken d)) → IsTrue (is_bounded_by known taken bound)

-- What the lines that a `Put` by a dependency learned at a leaf are, where `now` is the history with it: the one at place i
-- speaks of the leaf that is i splits above, and at each leaf from there up to the first of which no line was learned, what
-- the resolvers lead to is carried upwards, if it was split by a dependency.
pub record LearnsFrom (s : Setting) (now : History) (leaf : ℕ) (learned : List Line) : Type 0 where
  pub places : (i : ℕ) → i < length learned → (node : ℕ) × (above s.problem now leaf i ≡ Some node) × IsTrue (is_subset (line_at learned i).set (taken_at s.problem now node))
  pub carried : (i node d : ℕ) → i ≤ length learned → above s.problem now leaf i ≡ Some node → split_at now node ≡ Some (Dep d)
      → IsCarried s.problem s.table (lines_at now) (taken_at s.problem now node) d

-- After the history, the entry learns what it has to. (Of a split by a choice nothing is asked.)
abbrev pub LearnsUpwards : Setting → History → Entry → Type 0
LearnsUpwards s history (Put actor leaf (Dep d) learned) = LearnsFrom s (history ++ Put actor leaf (Dep d) learned ∷ []) leaf learned
LearnsUpwards s history _ = ⊤

-- each entry learns what it has to
abbrev pub AlwaysLearns : Setting → History → Type 0
AlwaysLearns s history = (before : History) (entry : Entry) (after : History) → history ≡ before ++ entry ∷ after → LearnsUpwards s before entry
