-- Laws of legal histories.
use Rattle.std.specs.Prelude.{nat_lt, ◌==◌, ◌+◌, ◌≡◌, ◌≢◌, ◌⊎◌, ◌<◌, ◌≤◌, ◌^◌, ℕ, Bool, true, false, List, [], ◌∷◌, ◌++◌, length, IsTrue, IsFalse, Option, Some, None, ⊤}
use Rattle.std.specs.List.{filter, filter_map, list_all, list_any}
use Rattle.std.specs.Ordering.{is_le}
use Rattle.lists.specs.Members.{Member}
use Rattle.lists.specs.Sets.{with, is_disjoint, is_subset}
use Rattle.resolver_model.specs.declared.node.Node.{Node}
use Rattle.resolver_model.specs.declared.lines.Bound.{Bound}
use Rattle.resolver_model.specs.declared.lines.Line.{Line}
use Rattle.resolver_model.specs.declared.history.Command.{Command}
use Rattle.resolver_model.specs.declared.history.Command.TheVariants.{Next}
use Rattle.resolver_model.specs.declared.history.Reply.{Reply}
use Rattle.resolver_model.specs.declared.history.Reply.TheVariants.{Solution, NoMore, NotYet}
use Rattle.resolver_model.specs.declared.history.Entry.{Entry}
use Rattle.resolver_model.specs.declared.history.Entry.TheVariants.{Say, Put, Back}
use Rattle.resolver_model.specs.Problems.{Problem, choices, dependency_count, is_open, is_choice_set, is_consistent, is_solution, resolvers}
use Rattle.resolver_model.specs.Costs.{Table, cost, cost_cmp, IsUpTo}
use Rattle.resolver_model.specs.Rules.{Rules, no_rules}
use Rattle.resolver_model.specs.First.{is_obtainable, IsFirst, IsNoneLeft}
use Rattle.resolver_model.specs.Lines.{IsSound, is_at_most, is_bounded_by, fits_table}
use Rattle.resolver_model.specs.Trees.{Leaf, Tree, Situation, is_within, tree_at, node_of, is_shut, is_finished, is_some_wanted, is_all_shut, key_of}
use Rattle.resolver_model.specs.declared.history.By.TheVariants.{Dep}
use Rattle.resolver_model.specs.Births.{Birth, birth, births_at, taken_at, split_at}
use Rattle.resolver_model.specs.Histories.{History, given_at, cursor_at, lines_at, out_at, rules_at}
use Rattle.resolver_model.specs.Answers.{Setting, delivery_count}
use Rattle.resolver_model.specs.Legal.{Follows, IsLegal}

-- each line is sound for the deliveries
abbrev pub AreLinesSound : Setting → History → Type 0
AreLinesSound s history = (line : Line) → Member line (lines_at history) → IsSound s.problem s.table (given_at history) line

-- R holds of each item and each later one
abbrev pub AreApart : {X : Type 0} → (X → X → Type 0) → List X → Type 0
AreApart R [] = ⊤
AreApart {X} R (x ∷ xs) = ((y : X) → Member y xs → R x y) × AreApart R xs

-- A node's lists are choice sets without a common member, and its taken list is consistent.
pub record IsNode (p : Problem) (node : Node) : Type 0 where
  pub taken : IsTrue (is_choice_set p node.taken)
  pub barred : IsTrue (is_choice_set p node.barred)
  pub disjoint : IsTrue (is_disjoint node.taken node.barred)
  pub consistent : IsTrue (is_consistent p node.taken)

-- no set is within both
abbrev pub AreNodesApart : Node → Node → Type 0
AreNodesApart node other = (set : List ℕ) → IsTrue (is_within node set) → IsTrue (is_within other set) → ⊥

-- two leaves have other numbers, and no set is within both
abbrev pub AreLeavesApart : Leaf → Leaf → Type 0
AreLeavesApart leaf other = (leaf.number ≢ other.number) × AreNodesApart leaf.node other.node

-- The leaves are apart, their numbers are below the next one, their lists are in order, and every solution is within one.
pub record IsTree (p : Problem) (tree : Tree) : Type 0 where
  pub apart : AreApart AreLeavesApart tree.leaves
  pub below : (leaf : Leaf) → Member leaf tree.leaves → leaf.number < tree.next
  pub lists : (leaf : Leaf) → Member leaf tree.leaves → IsNode p leaf.node
  pub cover : (set : List ℕ) → IsTrue (is_solution p set) → (leaf : Leaf) × Member leaf tree.leaves × IsTrue (is_within leaf.node set)

-- Who has a leaf out is one of the actors, no other actor has it out, and it is a leaf of the tree. (That an actor has at
-- most one leaf out is in the type of `out_at`.)
pub record AreHandsApart (s : Setting) (history : History) : Type 0 where
  pub actors : (who leaf : ℕ) → out_at who history ≡ Some leaf → who < s.actors
  pub alone : (who other leaf : ℕ) → out_at who history ≡ Some leaf → out_at other history ≡ Some leaf → who ≡ other
  pub leaves : (who leaf : ℕ) → out_at who history ≡ Some leaf → (l : Leaf) × Member l (tree_at s.problem history).leaves × (l.number ≡ leaf)

-- a finished leaf whose taken list is up to that of each finished leaf
pub record IsLeastFinished (s : Situation) (leaf : Leaf) : Type 0 where
  pub member : Member leaf s.leaves
  pub finished : IsTrue (is_finished s leaf.node)
  pub least : (other : Leaf) → Member other s.leaves → IsTrue (is_finished s other.node) → IsUpTo s.table leaf.node.taken other.node.taken

-- What the leaves say of the obtainable sets: the key of a finished leaf is its cost, an obtainable set is within a leaf
-- that is not shut and whose key is at most its cost, where no leaf is wanted the least finished one has the first set,
-- where all are shut no set is obtainable, and where no leaf is wanted one of these two is so.
pub record AreLeavesTrue (s : Situation) : Type 0 where
  pub key : (leaf : Leaf) → Member leaf s.leaves → IsTrue (is_finished s leaf.node) → key_of s leaf.node ≡ cost s.table leaf.node.taken
  pub found : (set : List ℕ) → IsTrue (is_obtainable s.problem s.table s.rules s.given set)
      → (leaf : Leaf) × Member leaf s.leaves × IsTrue (is_within leaf.node set) × IsFalse (is_shut s leaf.node) × IsTrue (is_le (cost_cmp (key_of s leaf.node) (cost s.table set)))
  pub first : (leaf : Leaf) → IsFalse (is_some_wanted s) → IsLeastFinished s leaf → IsFirst s.problem s.table s.rules s.given leaf.node.taken
  pub none : IsTrue (is_all_shut s) → IsNoneLeft s.problem s.table s.rules s.given
  pub settled : IsFalse (is_some_wanted s) → IsTrue (is_all_shut s) ⊎ ((leaf : Leaf) × IsLeastFinished s leaf)

-- the answers of a history, without "not yet"
abbrev pub is_told : Entry → Bool
is_told (Say actor command (NotYet steps)) = false
is_told (Say actor command reply) = true
is_told _ = false

abbrev pub told : History → History
told history = filter is_told history

-- Two settings with the same problem, amounts and first rules. Slices and actors may differ.
pub record IsSameQuestion (s t : Setting) : Type 0 where
  pub problem : s.problem ≡ t.problem
  pub table : s.table ≡ t.table
  pub first_rules : s.first_rules ≡ t.first_rules

-- After two histories with the same answers, "not yet" aside, two replies to one command are the same, "not yet" aside.
abbrev pub AreFreeOfSchedule : Setting → Setting → Type 0
AreFreeOfSchedule s t = (one other : History) (actor mate : ℕ) (command : Command) (reply answer : Reply) → told one ≡ told other
    → Follows s one (Say actor command reply) → Follows t other (Say mate command answer) → IsTrue (is_told (Say actor command reply)) → IsTrue (is_told (Say mate command answer)) → reply ≡ answer

-- a command, and the actor who gave it
pub record Asking : Type 0 where
  pub actor : ℕ
  pub command : Command

abbrev pub asked_by : Entry → Option Asking
asked_by (Say actor command reply) = Some (record { actor = actor; command = command })
asked_by _ = None

-- the commands that a history answers
abbrev pub asked : History → List Asking
asked history = filter_map asked_by history

-- whether an entry answers "not yet"
abbrev pub is_wait : Entry → Bool
is_wait (Say actor command (NotYet steps)) = true
is_wait _ = false

-- Two histories that answer the same commands, and nothing by "not yet", answer each of them alike.
abbrev pub AreAnsweredAlike : Setting → Setting → Type 0
AreAnsweredAlike s t = (one other : History) → IsLegal s one → IsLegal t other → asked one ≡ asked other
    → IsFalse (list_any is_wait one) → IsFalse (list_any is_wait other) → told one ≡ told other

-- no rule stood at any delivery
abbrev pub IsDeliveredWithoutRules : Setting → History → Type 0
IsDeliveredWithoutRules s history = (before : History) (actor : ℕ) (command : Command) (number : ℕ) (set : List ℕ) (after : History)
    → history ≡ before ++ Say actor command (Solution number set true) ∷ after → rules_at s.first_rules before ≡ no_rules

-- each delivery is the first set after those before it
abbrev pub AreFirstInTurn : Setting → History → Type 0
AreFirstInTurn s history = (before : List (List ℕ)) (set : List ℕ) (after : List (List ℕ)) → given_at history ≡ before ++ set ∷ after → IsFirst s.problem s.table no_rules before set

abbrev pub is_put : Entry → Bool
is_put (Put actor leaf by learned) = true
is_put _ = false

abbrev pub put_count : History → ℕ
put_count history = length (filter is_put history)

-- no more than three to the power of the count of choices
abbrev pub ArePutsFew : Setting → History → Type 0
ArePutsFew s history = put_count history ≤ 3 ^ length (choices s.problem)

-- every solution is within exactly one leaf
abbrev pub IsWithinOneLeaf : Problem → Tree → Type 0
IsWithinOneLeaf p tree = (set : List ℕ) → IsTrue (is_solution p set)
    → (leaf : Leaf) × Member leaf tree.leaves × IsTrue (is_within leaf.node set) × ((other : Leaf) → Member other tree.leaves → IsTrue (is_within other.node set) → other ≡ leaf)

-- The births are one for each number given so far. Those of the tree's leaves have their nodes, leaf 0 alone has no parent, a
-- parent has a lower number and takes no more, and all lists are in order.
pub record AreBirths (p : Problem) (tree : Tree) (births : List Birth) : Type 0 where
  pub count : length births ≡ tree.next
  pub leaves : (leaf : Leaf) → Member leaf tree.leaves → (birth births leaf.number).node ≡ leaf.node
  pub parents : (leaf parent : ℕ) → leaf < length births → (birth births leaf).parent ≡ Some parent → (parent < leaf) × IsTrue (is_subset (birth births parent).node.taken (birth births leaf).node.taken)
  pub first : (leaf : ℕ) → leaf < length births → (birth births leaf).parent ≡ None → leaf ≡ 0
  pub root : (birth births 0).parent ≡ None
  pub nodes : (leaf : ℕ) → leaf < length births → IsNode p (birth births leaf).node

-- A line of a dependency is strong if its bound is at least each one that a line held has for each resolver.
abbrev pub IsStrong : Problem → List Line → List ℕ → ℕ → Line → Type 0
IsStrong p lines taken d line = (bound : Bound) → IsTrue (list_all (λ r. is_bounded_by lines (with taken r) bound) (resolvers p taken d)) → IsTrue (is_at_most bound line.bound)

-- The leaves of the tree are those that it has had and that were not split, and no number that is not given yet was split.
pub record AreLeavesUnsplit (s : Setting) (history : History) : Type 0 where
  pub leaves : (leaf : Leaf) → Member leaf (tree_at s.problem history).leaves → split_at history leaf.number ≡ None
  pub unsplit : (number : ℕ) → number < length (births_at s.problem history) → split_at history number ≡ None
      → Member (record { number = number; node = (birth (births_at s.problem history) number).node }) (tree_at s.problem history).leaves
  pub later : (number : ℕ) → length (births_at s.problem history) ≤ number → split_at history number ≡ None

-- After a history, at most one reply to an actor's command may follow.
abbrev pub IsAnsweredOnce : Setting → Type 0
IsAnsweredOnce s = (history : History) (actor : ℕ) (command : Command) (reply answer : Reply) → Follows s history (Say actor command reply) → Follows s history (Say actor command answer) → reply ≡ answer

-- Rules that mark choices of the setting's problem alone, none both ways, and cap levels of its costs alone.
pub record AreRulesFor (s : Setting) (rules : Rules) : Type 0 where
  pub approved : IsTrue (is_choice_set s.problem rules.approved)
  pub rejected : IsTrue (is_choice_set s.problem rules.rejected)
  pub apart : IsTrue (is_disjoint rules.approved rules.rejected)
  pub caps : IsTrue (list_all (λ c. nat_lt c.0 (length s.table.levels + 1)) rules.caps)

-- each leaf of one list is one of the other
pub record HaveSameLeaves (leaves others : List Leaf) : Type 0 where
  pub forth : (leaf : Leaf) → Member leaf leaves → Member leaf others
  pub back : (leaf : Leaf) → Member leaf others → Member leaf leaves

-- the situation with its leaves listed in another way
abbrev pub with_leaves : Situation → List Leaf → Situation
with_leaves s leaves = record { problem = s.problem; table = s.table; rules = s.rules; given = s.given; lines = s.lines; leaves = leaves }

-- a slice greater than the bound is never used up
abbrev pub IsNeverNotYet : Setting → History → Type 0
IsNeverNotYet s history = (actor steps : ℕ) → 3 ^ length (choices s.problem) < s.slice → Follows s history (Say actor Next (NotYet steps)) → ⊥

-- no two leaves take the same list
abbrev pub AreTakenOnce : Tree → Type 0
AreTakenOnce tree = (leaf other : Leaf) → Member leaf tree.leaves → Member other tree.leaves → leaf.node.taken ≡ other.node.taken → leaf ≡ other

-- the cursor stands at no delivery past the last
abbrev pub IsCursorLow : History → Type 0
IsCursorLow history = cursor_at history ≤ delivery_count history

-- the costs in the lines have the table's length
abbrev pub fit_table : Table → List Line → Bool
fit_table table lines = list_all (λ line. fits_table table line.bound) lines

abbrev pub DoLinesFit : Setting → History → Type 0
DoLinesFit s history = IsTrue (fit_table s.table (lines_at history))

-- a leaf that was split by a dependency has it open at its taken list
abbrev pub AreSplitsOpen : Setting → History → Type 0
AreSplitsOpen s history = (leaf d : ℕ) → split_at history leaf ≡ Some (Dep d) → (d < dependency_count s.problem) × IsTrue (is_open s.problem (taken_at s.problem history leaf) d)

-- whether an entry ends what this actor has out
abbrev pub is_end_by : ℕ → Entry → Bool
is_end_by who (Put actor leaf by learned) = actor == who
is_end_by who (Back actor leaf) = actor == who
is_end_by who _ = false

-- With one entry more, an actor that has a leaf out still has it, and the leaf takes and bars the same, but where the entry ends it.
abbrev pub IsKeptOut : Setting → History → Entry → Type 0
IsKeptOut s history entry = (who leaf : ℕ) → out_at who history ≡ Some leaf → IsFalse (is_end_by who entry)
    → (out_at who (history ++ entry ∷ []) ≡ Some leaf) × (node_of (tree_at s.problem (history ++ entry ∷ [])) leaf ≡ node_of (tree_at s.problem history) leaf)
