-- The search tree: its leaves, what a split makes of one, and which of them still have to be split.
use Rattle.std.specs.Prelude.{ℕ, ◌+◌, Bool, true, false, not, ◌&&◌, ◌||◌, List, [], ◌∷◌, length, ◌==◌, if◌then◌else◌}
use Rattle.std.specs.Option.{unwrap_or, option_map}
use Rattle.std.specs.List.{fold, filter, flat_map, find, list_any, list_all}
use Rattle.std.specs.Ordering.{is_lt, is_le}
use Rattle.lists.specs.Sets.{has, with, union, is_subset, is_disjoint}
use Rattle.resolver_model.specs.declared.node.Node.{Node}
use Rattle.resolver_model.specs.declared.lines.Bound.{Bound}
use Rattle.resolver_model.specs.declared.lines.Bound.TheVariants.{Cost, Given, Impossible}
use Rattle.resolver_model.specs.declared.lines.Line.{Line}
use Rattle.resolver_model.specs.declared.history.By.{By}
use Rattle.resolver_model.specs.declared.history.By.TheVariants.{Dep, Choice}
use Rattle.resolver_model.specs.declared.history.Entry.{Entry}
use Rattle.resolver_model.specs.declared.history.Entry.TheVariants.{Put}
use Rattle.resolver_model.specs.Problems.{Problem, resolvers, is_consistent, is_nothing_open}
use Rattle.resolver_model.specs.Costs.{Table, cost, cost_cmp}
use Rattle.resolver_model.specs.Rules.{Rules, is_under}
use Rattle.resolver_model.specs.Lines.{has_delivery}
use Rattle.resolver_model.specs.Histories.{History}

pub record Leaf : Type 0 where
  pub number : ℕ
  pub node : Node

-- the leaves, and the number that the next new leaf gets
pub record Tree : Type 0 where
  pub leaves : List Leaf
  pub next : ℕ

abbrev pub root : Node
root = record { taken = []; barred = [] }

-- A set is within a node if it contains the taken list and avoids the barred one.
abbrev pub is_within : Node → List ℕ → Bool
is_within node set = is_subset node.taken set && is_disjoint node.barred set

-- one node per resolver, in order: it takes that one and bars those before it
abbrev pub branches : List ℕ → List ℕ → List ℕ → List Node
branches taken barred [] = []
branches taken barred (r ∷ rs) = record { taken = with taken r; barred = barred } ∷ branches taken (with barred r) rs

abbrev pub split_by_dep : Problem → Node → ℕ → List Node
split_by_dep p node d = branches node.taken node.barred (filter (λ r. not (has node.barred r)) (resolvers p node.taken d))

abbrev pub split_by_choice : Node → ℕ → List Node
split_by_choice node a = record { taken = with node.taken a; barred = node.barred } ∷ record { taken = node.taken; barred = with node.barred a } ∷ []

abbrev pub split : Problem → Node → By → List Node
split p node (Dep d) = split_by_dep p node d
split p node (Choice a) = split_by_choice node a

-- the nodes as leaves, numbered from n
abbrev pub numbered : ℕ → List Node → List Leaf
numbered n [] = []
numbered n (node ∷ nodes) = record { number = n; node = node } ∷ numbered (n + 1) nodes

-- the node of the leaf with this number
abbrev pub node_of : Tree → ℕ → Node
node_of tree leaf = unwrap_or (option_map (λ (l : Leaf). l.node) (find (λ l. l.number == leaf) tree.leaves)) root

-- what a split makes of a leaf: the one with this number is replaced, and the others stay
abbrev pub split_leaf : Problem → ℕ → By → ℕ → Leaf → List Leaf
split_leaf p leaf by next l = if l.number == leaf then numbered next (split p l.node by) else l ∷ []

abbrev pub tree_after : Problem → Tree → Entry → Tree
tree_after p tree (Put actor leaf by learned) =
    record { leaves = flat_map (split_leaf p leaf by tree.next) tree.leaves; next = tree.next + length (split p (node_of tree leaf) by) }
tree_after p tree _ = tree

-- It starts with leaf 0, which holds every set. A `Put` replaces its leaf, and no other entry changes the tree.
abbrev pub tree_at : Problem → History → Tree
tree_at p history = fold (tree_after p) (record { leaves = numbered 0 (root ∷ []); next = 1 }) history

-- What the kinds of leaves depend on.
pub record Situation : Type 0 where
  pub problem : Problem
  pub table : Table
  pub rules : Rules
  pub given : List (List ℕ)
  pub lines : List Line
  pub leaves : List Leaf

abbrev pub is_final : Bound → Bool
is_final (Cost v) = false
is_final Given = true
is_final Impossible = true

-- A leaf is shut if it takes a rejected choice, bars an approved one, is inconsistent with the approved choices, takes a
-- delivery, has a cost over a cap, or takes the set of a line bounded by `Given` or `Impossible`.
abbrev pub is_shut : Situation → Node → Bool
is_shut s node =
    not (is_disjoint s.rules.rejected node.taken) || not (is_disjoint s.rules.approved node.barred)
    || not (is_consistent s.problem (union node.taken s.rules.approved)) || has_delivery s.given node.taken
    || not (list_all (is_under (cost s.table node.taken)) s.rules.caps)
    || list_any (λ line. is_final line.bound && is_subset line.set node.taken) s.lines

-- A leaf that is not shut is finished if nothing is open at its taken list, which has every approved choice.
abbrev pub is_finished : Situation → Node → Bool
is_finished s node = not (is_shut s node) && is_nothing_open s.problem node.taken && is_subset s.rules.approved node.taken

abbrev pub raised : List ℕ → Bound → List ℕ
raised key (Cost v) = if is_lt (cost_cmp key v) then v else key
raised key Given = key
raised key Impossible = key

-- The key is the greatest of the cost of the taken list and the costs of the lines within it.
abbrev pub key_of : Situation → Node → List ℕ
key_of s node = fold (λ key line. if is_subset line.set node.taken then raised key line.bound else key) (cost s.table node.taken) s.lines

-- A leaf is wanted if it is neither shut nor finished, and its key is at most the cost of each finished leaf. (The least
-- finished leaf has the least cost.)
abbrev pub is_wanted : Situation → Node → Bool
is_wanted s node =
    not (is_shut s node) && not (is_finished s node)
    && list_all (λ other. not (is_finished s other.node) || is_le (cost_cmp (key_of s node) (cost s.table other.node.taken))) s.leaves

abbrev pub is_some_wanted : Situation → Bool
is_some_wanted s = list_any (λ leaf. is_wanted s leaf.node) s.leaves

abbrev pub is_all_shut : Situation → Bool
is_all_shut s = list_all (λ leaf. is_shut s leaf.node) s.leaves
