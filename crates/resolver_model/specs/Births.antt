-- The leaves that a tree has had so far, those that were split too: where each comes from, and how it was split.
use Rattle.std.specs.Prelude.{ℕ, zero, suc, List, [], ◌∷◌, ◌++◌, map, slice_index_or, ◌==◌, Option, Some, None, if◌then◌else◌}
use Rattle.std.specs.List.{fold}
use Rattle.resolver_model.specs.declared.node.Node.{Node}
use Rattle.resolver_model.specs.declared.history.By.{By}
use Rattle.resolver_model.specs.declared.history.Entry.{Entry}
use Rattle.resolver_model.specs.declared.history.Entry.TheVariants.{Put}
use Rattle.resolver_model.specs.Problems.{Problem}
use Rattle.resolver_model.specs.Histories.{History}
use Rattle.resolver_model.specs.Trees.{root, split}

-- the node of a leaf, and the leaf that it was split from
pub record Birth : Type 0 where
  pub node : Node
  pub parent : Option ℕ

abbrev pub first_birth : Birth
first_birth = record { node = root; parent = None }

-- The births stand in the order of the leaves' numbers, since new leaves get the next ones.
abbrev pub birth : List Birth → ℕ → Birth
birth births leaf = slice_index_or births leaf first_birth

abbrev pub child_of : ℕ → Node → Birth
child_of leaf node = record { node = node; parent = Some leaf }

abbrev pub births_after : Problem → List Birth → Entry → List Birth
births_after p births (Put actor leaf by learned) = births ++ map (child_of leaf) (split p (birth births leaf).node by)
births_after p births _ = births

abbrev pub births_at : Problem → History → List Birth
births_at p history = fold (births_after p) (first_birth ∷ []) history

-- the taken list of a leaf
abbrev pub taken_at : Problem → History → ℕ → List ℕ
taken_at p history leaf = (birth (births_at p history) leaf).node.taken

-- the leaf that a leaf was split from
abbrev pub parent_at : Problem → History → ℕ → Option ℕ
parent_at p history leaf = (birth (births_at p history) leaf).parent

abbrev pub parent_of : Problem → History → Option ℕ → Option ℕ
parent_of p history (Some leaf) = parent_at p history leaf
parent_of p history None = None

-- the leaf that is so many splits above this one
abbrev pub above : Problem → History → ℕ → ℕ → Option ℕ
above p history leaf zero = Some leaf
above p history leaf (suc splits) = parent_of p history (above p history leaf splits)

abbrev pub split_after : ℕ → Option By → Entry → Option By
split_after leaf found (Put actor own by learned) = if own == leaf then Some by else found
split_after leaf found _ = found

-- how a leaf was split, if it was
abbrev pub split_at : History → ℕ → Option By
split_at history leaf = fold (split_after leaf) None history
