-- Which histories are legal.
use Rattle.std.specs.Prelude.{◌≡◌, ◌≢◌, ◌<◌, ◌≤◌, ◌+◌, ℕ, true, List, [], ◌∷◌, ◌++◌, length, nat_lt, IsTrue, IsFalse, Some, None, ⊤}
use Rattle.std.specs.List.{Any, list_all}
use Rattle.lists.specs.Sets.{has, with, is_disjoint}
use Rattle.resolver_model.specs.declared.lines.Line.{Line}
use Rattle.resolver_model.specs.declared.node.Node.{Node}
use Rattle.resolver_model.specs.declared.history.By.{By}
use Rattle.resolver_model.specs.declared.history.By.TheVariants.{Dep, Choice}
use Rattle.resolver_model.specs.declared.history.Reply.{Reply}
use Rattle.resolver_model.specs.declared.history.Reply.TheVariants.{Solution, NoMore}
use Rattle.resolver_model.specs.declared.history.Entry.{Entry}
use Rattle.resolver_model.specs.declared.history.Entry.TheVariants.{Say, Take, Put, Back}
use Rattle.resolver_model.specs.Problems.{Problem, IsWellFormed, is_choice, is_choice_set, is_consistent, is_open, version_count, dependency_count}
use Rattle.resolver_model.specs.Costs.{Table}
use Rattle.resolver_model.specs.Lines.{is_derived}
use Rattle.resolver_model.specs.Histories.{History, given_at, lines_at, out_at}
use Rattle.resolver_model.specs.Trees.{Leaf, tree_at, node_of, is_finished, is_wanted, is_some_wanted, is_all_shut}
use Rattle.resolver_model.specs.Answers.{Setting, situation_at, NamesChoice, IsRightAnswer}

-- What a session may be made for: the table is over the problem's choices, the first rules name its choices and levels, and
-- there is a step to be made and somebody to make it.
pub record IsSetting (s : Setting) : Type 0 where
  pub problem : IsWellFormed s.problem
  pub table : s.table.choices ≡ version_count s.problem + dependency_count s.problem
  pub approved : IsTrue (is_choice_set s.problem s.first_rules.approved)
  pub rejected : IsTrue (is_choice_set s.problem s.first_rules.rejected)
  pub apart : IsTrue (is_disjoint s.first_rules.approved s.first_rules.rejected)
  pub caps : IsTrue (list_all (λ c. nat_lt c.0 (length s.table.levels + 1)) s.first_rules.caps)
  pub slice : 1 ≤ s.slice
  pub actors : 1 ≤ s.actors

-- The tree shows the answer: at a fresh solution no leaf is wanted and the set is what a finished leaf takes, and at "no
-- more" every leaf is shut.
abbrev pub IsShown : Setting → History → Reply → Type 0
IsShown s history (Solution number set true) =
    let now = situation_at s history in
    IsFalse (is_some_wanted now) × Any (λ (leaf : Leaf). IsTrue (is_finished now leaf.node) × (leaf.node.taken ≡ set)) now.leaves
IsShown s history NoMore = IsTrue (is_all_shut (situation_at s history))
IsShown s history _ = ⊤

-- a job may be split this way
abbrev pub CanSplit : Problem → Node → By → Type 0
CanSplit p node (Dep d) = (d < dependency_count p) × IsTrue (is_open p node.taken d)
CanSplit p node (Choice a) =
    IsTrue (is_choice p a) × IsFalse (has node.taken a) × IsFalse (has node.barred a) × IsTrue (is_consistent p (with node.taken a))

-- each line is derived from the ones before it
abbrev pub AreDerived : Problem → Table → List Line → List (List ℕ) → List Line → Type 0
AreDerived p table lines given [] = ⊤
AreDerived p table lines given (line ∷ more) = IsTrue (is_derived p table lines given line) × AreDerived p table (lines ++ line ∷ []) given more

-- no actor has the leaf out
abbrev pub IsInNobodysHands : History → ℕ → Type 0
IsInNobodysHands history leaf = (actor : ℕ) → out_at actor history ≢ Some leaf

-- the entry that may stand after a history
abbrev pub Follows : Setting → History → Entry → Type 0
Follows s history (Say actor command reply) =
    (actor < s.actors) × NamesChoice s.problem command × IsRightAnswer s history actor command reply × IsShown s history reply
Follows s history (Take actor leaf) =
    let now = situation_at s history in
    (actor < s.actors) × (out_at actor history ≡ None) × IsInNobodysHands history leaf
    × Any (λ (l : Leaf). (l.number ≡ leaf) × IsTrue (is_wanted now l.node)) now.leaves
Follows s history (Put actor leaf by learned) =
    (actor < s.actors) × (out_at actor history ≡ Some leaf) × CanSplit s.problem (node_of (tree_at s.problem history) leaf) by
    × AreDerived s.problem s.table (lines_at history) (given_at history) learned
Follows s history (Back actor leaf) = (actor < s.actors) × (out_at actor history ≡ Some leaf)

-- A history is legal if each entry may stand after the entries before it.
abbrev pub IsLegal : Setting → History → Type 0
IsLegal s history = (before : History) (entry : Entry) (after : History) → history ≡ before ++ entry ∷ after → Follows s before entry
