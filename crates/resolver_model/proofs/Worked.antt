-- Worked examples, computed.
use Rattle.std.proofs.Common.{◌≡◌, ℕ, List, [], ◌∷◌, Bool, true, false, Some, None, refl, map}
use Rattle.resolver_model.specs.Problems.{Problem, choices, is_broken}
use Rattle.resolver_model.specs.Costs.{Table, cost}
use Rattle.resolver_model.specs.Rules.{no_rules, set_mark, marks}
use Rattle.resolver_model.specs.First.{is_obtainable}
use Rattle.resolver_model.specs.Trees.{Leaf, tree_at, is_wanted, is_finished}
use Rattle.resolver_model.specs.Histories.{History, given_at, cursor_at, rules_at, puts_since, out_at}
use Rattle.resolver_model.specs.Lines.{is_derived}
use Rattle.resolver_model.specs.declared.lines.Bound.TheVariants.{Cost, Given, Impossible}
use Rattle.resolver_model.specs.Answers.{Setting, situation_at}
use Rattle.resolver_model.specs.declared.marks.Mark.TheVariants.{Approved, Rejected, Free}
use Rattle.resolver_model.specs.declared.history.By.TheVariants.{Dep}
use Rattle.resolver_model.specs.declared.history.Command.TheVariants.{Next, Prev, Reject}
use Rattle.resolver_model.specs.declared.history.Reply.TheVariants.{NotYet, Solution, Marked}
use Rattle.resolver_model.specs.declared.history.Entry.TheVariants.{Say, Take, Put}

-- a has version 1, installed, which needs b; b has 1, which needs d, and 2; d has 1
abbrev path : Problem
path = record {
  owners = 0 ∷ 0 ∷ 1 ∷ 1 ∷ 1 ∷ 2 ∷ 2 ∷ [];
  starts = 1 ∷ 2 ∷ 5 ∷ [];
  dependencies = record { source = 1; targets = 3 ∷ 4 ∷ []; soft = false } ∷ record { source = 3; targets = 6 ∷ []; soft = false } ∷ [];
}

-- the removal of a, and nothing canceled
abbrev path_table : Table
path_table = record {
  choices = 9;
  levels = record { greatest = false; amounts = 1 ∷ 0 ∷ 0 ∷ 0 ∷ 0 ∷ 0 ∷ 0 ∷ 0 ∷ 0 ∷ [] }
      ∷ record { greatest = false; amounts = 0 ∷ 0 ∷ 0 ∷ 0 ∷ 0 ∷ 0 ∷ 0 ∷ 0 ∷ 0 ∷ [] } ∷ [];
}

path_choices : choices path ≡ 0 ∷ 3 ∷ 4 ∷ 6 ∷ []
path_choices = refl

path_broken : is_broken path [] 0 ≡ true
path_broken = refl

path_costs : cost path_table (3 ∷ 6 ∷ []) ≡ 0 ∷ 0 ∷ 2 ∷ []
path_costs = refl

-- a, b and c have version 1, installed; a 1 needs b, a 2 needs b from 2 on, b 3 conflicts with c. Wanted: a 2
abbrev three : Problem
three = record {
  owners = 0 ∷ 0 ∷ 0 ∷ 1 ∷ 1 ∷ 1 ∷ 1 ∷ 2 ∷ 2 ∷ [];
  starts = 2 ∷ 4 ∷ 8 ∷ [];
  dependencies = record { source = 1; targets = 4 ∷ 5 ∷ 6 ∷ []; soft = false }
      ∷ record { source = 2; targets = 5 ∷ 6 ∷ []; soft = false }
      ∷ record { source = 6; targets = 7 ∷ []; soft = false } ∷ [];
}

abbrev three_table : Table
three_table = record {
  choices = 12;
  levels = record { greatest = false; amounts = 1 ∷ 0 ∷ 0 ∷ 1 ∷ 0 ∷ 0 ∷ 0 ∷ 1 ∷ 0 ∷ 0 ∷ 0 ∷ 0 ∷ [] }
      ∷ record { greatest = false; amounts = 1 ∷ 1 ∷ 0 ∷ 0 ∷ 0 ∷ 0 ∷ 0 ∷ 0 ∷ 0 ∷ 0 ∷ 0 ∷ 0 ∷ [] } ∷ [];
}

three_choices : choices three ≡ 0 ∷ 1 ∷ 3 ∷ 5 ∷ 6 ∷ 7 ∷ []
three_choices = refl

three_costs : map (cost three_table) ((5 ∷ []) ∷ (1 ∷ []) ∷ (6 ∷ 7 ∷ []) ∷ (0 ∷ []) ∷ []) ≡ (0 ∷ 0 ∷ 1 ∷ []) ∷ (0 ∷ 1 ∷ 1 ∷ []) ∷ (1 ∷ 0 ∷ 2 ∷ []) ∷ (1 ∷ 1 ∷ 1 ∷ []) ∷ []
three_costs = refl

three_marks : marks (set_mark (set_mark no_rules 7 Approved) 0 Rejected) ≡ (0, Rejected) ∷ (7, Approved) ∷ []
three_marks = refl

-- a slice of one step
abbrev slow : Setting
slow = record { problem = three; table = three_table; first_rules = no_rules; slice = 1; actors = 1 }

abbrev one_step : History
one_step = Take 0 0 ∷ Put 0 0 (Dep 1) [] ∷ []

abbrev lists : Leaf → ℕ × List ℕ × List ℕ
lists l = (l.number, l.node.taken, l.node.barred)

one_tree : map lists (tree_at three one_step).leaves
    ≡ (1, 0 ∷ [], []) ∷ (2, 1 ∷ [], 0 ∷ []) ∷ (3, 5 ∷ [], 0 ∷ 1 ∷ []) ∷ (4, 6 ∷ [], 0 ∷ 1 ∷ 5 ∷ []) ∷ []
one_tree = refl

-- the taken list, and whether the leaf is wanted, and finished
abbrev kinds : History → Leaf → List ℕ × Bool × Bool
kinds history l = (l.node.taken, is_wanted (situation_at slow history) l.node, is_finished (situation_at slow history) l.node)

one_kinds : map (kinds one_step) (tree_at three one_step).leaves
    ≡ (0 ∷ [], false, true) ∷ (1 ∷ [], false, true) ∷ (5 ∷ [], false, true) ∷ (6 ∷ [], true, false) ∷ []
one_kinds = refl

abbrev two_steps : History
two_steps = Take 0 0 ∷ Put 0 0 (Dep 1) [] ∷ Say 0 Next (NotYet 1) ∷ Take 0 4 ∷ Put 0 4 (Dep 2) [] ∷ []

two_kinds : map (kinds two_steps) (tree_at three two_steps).leaves
    ≡ (0 ∷ [], false, true) ∷ (1 ∷ [], false, true) ∷ (5 ∷ [], false, true) ∷ (6 ∷ 7 ∷ [], false, true) ∷ []
two_kinds = refl

two_puts : puts_since 0 two_steps ≡ 1
two_puts = refl

two_given : given_at two_steps ≡ []
two_given = refl

-- d 1 recommends e, and neither is installed. Wanted: d 1
abbrev softly : Problem
softly = record {
  owners = 0 ∷ 0 ∷ 1 ∷ 1 ∷ [];
  starts = 1 ∷ 2 ∷ [];
  dependencies = record { source = 1; targets = 3 ∷ []; soft = true } ∷ [];
}

abbrev softly_table : Table
softly_table = record {
  choices = 5;
  levels = record { greatest = false; amounts = 0 ∷ 0 ∷ 0 ∷ 0 ∷ 0 ∷ [] } ∷ record { greatest = false; amounts = 1 ∷ 0 ∷ 0 ∷ 0 ∷ 0 ∷ [] } ∷ [];
}

-- which sets are obtainable at first, and once e was delivered
softly_obtainable : map (is_obtainable softly softly_table no_rules []) ([] ∷ (0 ∷ []) ∷ (3 ∷ []) ∷ (4 ∷ []) ∷ []) ≡ false ∷ true ∷ true ∷ true ∷ []
softly_obtainable = refl

softly_given : map (is_obtainable softly softly_table no_rules ((3 ∷ []) ∷ [])) ((0 ∷ []) ∷ (3 ∷ []) ∷ (3 ∷ 4 ∷ []) ∷ (4 ∷ []) ∷ []) ≡ true ∷ false ∷ false ∷ true ∷ []
softly_given = refl

-- exim4 and postfix each conflict with another mail transport agent. Wanted: postfix
abbrev mail : Problem
mail = record {
  owners = 0 ∷ 0 ∷ 1 ∷ 1 ∷ [];
  starts = 1 ∷ 3 ∷ [];
  dependencies = record { source = 1; targets = 2 ∷ []; soft = false } ∷ record { source = 3; targets = 0 ∷ []; soft = false } ∷ [];
}

abbrev removals_first : Table
removals_first = record {
  choices = 6;
  levels = record { greatest = false; amounts = 1 ∷ 0 ∷ 0 ∷ 0 ∷ 0 ∷ 0 ∷ [] } ∷ record { greatest = false; amounts = 0 ∷ 0 ∷ 1 ∷ 0 ∷ 0 ∷ 0 ∷ [] } ∷ [];
}

mail_obtainable : map (is_obtainable mail removals_first no_rules ((2 ∷ []) ∷ [])) ([] ∷ (0 ∷ []) ∷ (0 ∷ 2 ∷ []) ∷ (2 ∷ []) ∷ []) ≡ false ∷ true ∷ false ∷ false ∷ []
mail_obtainable = refl

-- removals, and the greatest of removals
abbrev greatest_table : Table
greatest_table = record { choices = 12; levels = record { greatest = true; amounts = 1 ∷ 0 ∷ 0 ∷ 1 ∷ 0 ∷ 0 ∷ 0 ∷ 1 ∷ 0 ∷ 0 ∷ 0 ∷ 0 ∷ [] } ∷ [] }

two_removals : cost three_table (0 ∷ 7 ∷ []) ∷ cost greatest_table (0 ∷ 7 ∷ []) ∷ cost greatest_table [] ∷ [] ≡ (2 ∷ 1 ∷ 2 ∷ []) ∷ (1 ∷ 2 ∷ []) ∷ (0 ∷ 0 ∷ []) ∷ []
two_removals = refl

-- with b 3 something has to be done about c: such a set costs at least 1 0 2, and no more is known
derived_lines : map (λ b. is_derived three three_table [] [] (record { set = 6 ∷ []; bound = b })) (Cost (1 ∷ 0 ∷ 2 ∷ []) ∷ Cost (1 ∷ 1 ∷ 2 ∷ []) ∷ Cost (1 ∷ 0 ∷ []) ∷ Given ∷ Impossible ∷ [])
    ≡ true ∷ false ∷ false ∷ false ∷ false ∷ []
derived_lines = refl

-- once b 2 was delivered, what contains it is given
given_lines : map (λ b. is_derived three three_table [] ((5 ∷ []) ∷ []) (record { set = 5 ∷ 7 ∷ []; bound = b })) (Given ∷ Impossible ∷ []) ≡ true ∷ false ∷ []
given_lines = refl

-- a history of replies
abbrev three_answers : History
three_answers = Say 0 Next (Solution 1 (5 ∷ []) true) ∷ Say 0 (Reject 7) Marked ∷ Say 0 Next (Solution 2 (1 ∷ []) true) ∷ Say 0 Prev (Solution 1 (5 ∷ []) false) ∷ []

three_given : given_at three_answers ≡ (5 ∷ []) ∷ (1 ∷ []) ∷ []
three_given = refl

three_cursor : cursor_at three_answers ≡ 1
three_cursor = refl

three_rules : marks (rules_at no_rules three_answers) ≡ (7, Rejected) ∷ []
three_rules = refl

-- who holds which leaf
held : out_at 0 (Take 0 0 ∷ []) ∷ out_at 0 one_step ∷ out_at 1 (Take 0 0 ∷ []) ∷ [] ≡ Some 0 ∷ None ∷ None ∷ []
held = refl
