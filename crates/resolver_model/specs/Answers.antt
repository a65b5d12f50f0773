-- Which reply is right after a history.
use Rattle.std.specs.Prelude.{◌≡◌, ◌<◌, ◌≤◌, ℕ, ◌+◌, ◌-◌, Bool, true, false, List, [], ◌∷◌, ◌++◌, length, slice_index_or, IsTrue, IsFalse, ⊤}
use Rattle.std.specs.List.{sum_by}
use Rattle.resolver_model.specs.declared.history.Command.{Command}
use Rattle.resolver_model.specs.declared.history.Command.TheVariants as command
use Rattle.resolver_model.specs.declared.history.Entry.{Entry}
use Rattle.resolver_model.specs.declared.history.Entry.TheVariants.{Say}
use Rattle.resolver_model.specs.declared.history.Reply.{Reply}
use Rattle.resolver_model.specs.declared.history.Reply.TheVariants.{Solution, NoMore, NotYet, Marked, Rules, Summary, NotShown, AtFirst, RuledOut, OverCap, NoLevel, Accepted, Ended, Misread}
use Rattle.resolver_model.specs.Problems.{Problem, is_choice}
use Rattle.resolver_model.specs.Costs.{Table, cost}
use Rattle.resolver_model.specs.Rules as rules
use Rattle.resolver_model.specs.First.{IsFirst, IsNoneLeft}
use Rattle.resolver_model.specs.Histories.{History, given_at, rules_at, cursor_at, puts_since, lines_at}
use Rattle.resolver_model.specs.Trees.{Situation, tree_at, is_some_wanted}

-- What a session is made for.
pub record Setting : Type 0 where
  pub problem : Problem
  pub table : Table
  pub first_rules : rules.Rules
  pub slice : ℕ
  pub actors : ℕ

abbrev pub situation_at : Setting → History → Situation
situation_at s history = record {
  problem = s.problem;
  table = s.table;
  rules = rules_at s.first_rules history;
  given = given_at history;
  lines = lines_at history;
  leaves = (tree_at s.problem history).leaves;
}

abbrev pub delivery_count : History → ℕ
delivery_count history = length (given_at history)

-- the delivery with this number, counted from 1
abbrev pub delivery : History → ℕ → List ℕ
delivery history number = slice_index_or (given_at history) (number - 1) []

-- the set that the cursor stands at
abbrev pub shown_set : History → List ℕ
shown_set history = delivery history (cursor_at history)

-- the cursor stands at the last delivery
abbrev pub IsAtEnd : History → Type 0
IsAtEnd history = cursor_at history ≡ delivery_count history

abbrev pub IsNextReply : Setting → History → ℕ → Reply → Type 0
IsNextReply s history actor (Solution number set false) =
    (cursor_at history < delivery_count history) × (number ≡ cursor_at history + 1) × (set ≡ delivery history number)
IsNextReply s history actor (Solution number set true) =
    IsAtEnd history × (number ≡ delivery_count history + 1)
    × IsFirst s.problem s.table (rules_at s.first_rules history) (given_at history) set
IsNextReply s history actor NoMore = IsAtEnd history × IsNoneLeft s.problem s.table (rules_at s.first_rules history) (given_at history)
IsNextReply s history actor (NotYet steps) =
    IsAtEnd history × (steps ≡ s.slice) × IsTrue (is_some_wanted (situation_at s history)) × (s.slice ≤ puts_since actor history)
IsNextReply s history actor _ = ⊥

abbrev pub IsPrevReply : History → Reply → Type 0
IsPrevReply history (Solution number set false) = (2 ≤ cursor_at history) × (number + 1 ≡ cursor_at history) × (set ≡ delivery history number)
IsPrevReply history AtFirst = cursor_at history ≡ 1
IsPrevReply history NotShown = cursor_at history ≡ 0
IsPrevReply history _ = ⊥

-- the cost of the set that the cursor stands at
abbrev pub shown_cost : Setting → History → List ℕ
shown_cost s history = cost s.table (shown_set history)

-- no choice is against the set that the cursor stands at
abbrev pub IsNoneAgainst : Setting → History → Type 0
IsNoneAgainst s history = (c : ℕ) → IsFalse (rules.is_against (rules_at s.first_rules history) (shown_set history) c)

abbrev pub IsAcceptReply : Setting → History → Reply → Type 0
IsAcceptReply s history NotShown = cursor_at history ≡ 0
IsAcceptReply s history (RuledOut c) = (1 ≤ cursor_at history) × rules.IsLeastAgainst (rules_at s.first_rules history) (shown_set history) c
IsAcceptReply s history (OverCap level) =
    (1 ≤ cursor_at history) × IsNoneAgainst s history × rules.IsLeastOver (rules_at s.first_rules history) (shown_cost s history) level
IsAcceptReply s history Accepted =
    (1 ≤ cursor_at history) × IsTrue (rules.keeps (rules_at s.first_rules history) (shown_set history) (shown_cost s history))
IsAcceptReply s history _ = ⊥

-- a cost has a component for each level of the table, and last the number of choices
abbrev pub IsCapReply : Setting → ℕ → Reply → Type 0
IsCapReply s level Marked = level < length s.table.levels + 1
IsCapReply s level NoLevel = length s.table.levels + 1 ≤ level
IsCapReply s level _ = ⊥

-- After the history, this reply to the actor's command is right.
abbrev pub IsRightAnswer : Setting → History → ℕ → Command → Reply → Type 0
IsRightAnswer s history actor command.Next reply = IsNextReply s history actor reply
IsRightAnswer s history actor command.Prev reply = IsPrevReply history reply
IsRightAnswer s history actor (command.Reject c) reply = reply ≡ Marked
IsRightAnswer s history actor (command.Approve c) reply = reply ≡ Marked
IsRightAnswer s history actor (command.Free c) reply = reply ≡ Marked
IsRightAnswer s history actor command.Rules reply =
    let now = rules_at s.first_rules history in
    reply ≡ Rules (rules.marks now) now.caps
IsRightAnswer s history actor command.Summary reply = reply ≡ Summary (delivery_count history) (sum_by length (given_at history))
IsRightAnswer s history actor command.Accept reply = IsAcceptReply s history reply
IsRightAnswer s history actor (command.Cap level most) reply = IsCapReply s level reply
IsRightAnswer s history actor command.Quit reply = reply ≡ Ended
IsRightAnswer s history actor (command.Bad kind) reply = reply ≡ Misread kind

-- the choice that a command names is one of the problem's
abbrev pub NamesChoice : Problem → Command → Type 0
NamesChoice p (command.Reject c) = IsTrue (is_choice p c)
NamesChoice p (command.Approve c) = IsTrue (is_choice p c)
NamesChoice p (command.Free c) = IsTrue (is_choice p c)
NamesChoice p _ = ⊤

-- whether an entry is an answer
abbrev pub is_say : Entry → Bool
is_say (Say actor command reply) = true
is_say _ = false

-- an answer that is right after a history; of other entries nothing is asked
abbrev pub IsRightEntry : Setting → History → Entry → Type 0
IsRightEntry s history (Say actor command reply) =
    (actor < s.actors) × NamesChoice s.problem command × IsRightAnswer s history actor command reply
IsRightEntry s history _ = ⊤

-- Each answer of a history is right after the entries before it.
abbrev pub AreAnswersRight : Setting → History → Type 0
AreAnswersRight s history = (before : History) (entry : Entry) (after : History) → history ≡ before ++ entry ∷ after → IsRightEntry s before entry
