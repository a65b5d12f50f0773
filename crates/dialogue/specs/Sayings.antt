-- The lines that a user types for commands.
use Rattle.std.specs.Prelude.{ℕ, ◌+◌, ◌<◌, ◌^◌, List, [], ◌++◌, Option, Some, None, codes, IsTrue}
use Rattle.std.specs.Fmt.{decimal}
use Rattle.resolver_model.specs.declared.history.Command.{Command}
use Rattle.resolver_model.specs.declared.history.Command.TheVariants.{Next, Prev, Reject, Approve, Free, Cap, Rules, Summary, Accept, Quit, Bad}
use Rattle.resolver_model.specs.Problems.{Problem, is_choice}
use Rattle.universe_model.specs.Universes.{Universe}
use Rattle.universe_model.specs.Tokens.{token}

-- the most of a cap, or `off`
abbrev pub most_text : Option ℕ → List ℕ
most_text (Some most) = decimal most
most_text None = codes "off"

-- the line of a command: its words, with a space between two
abbrev pub line_of : Universe → Problem → Command → List ℕ
line_of u p Next = codes "next"
line_of u p Prev = codes "prev"
line_of u p (Reject c) = codes "reject " ++ token u p c
line_of u p (Approve c) = codes "approve " ++ token u p c
line_of u p (Free c) = codes "free " ++ token u p c
line_of u p (Cap level most) = codes "cap " ++ decimal (level + 1) ++ codes " " ++ most_text most
line_of u p Rules = codes "rules"
line_of u p Summary = codes "summary"
line_of u p Accept = codes "accept"
line_of u p Quit = codes "quit"
line_of u p (Bad kind) = []

-- a number of 64 bits, where there is one
abbrev pub FitsMost : Option ℕ → Type 0
FitsMost (Some most) = most < 2 ^ 64
FitsMost None = Unit {0}

-- the commands that have a line: a mark is on a choice of the problem, a level has 1 or 2 digits, a cap has 64 bits
abbrev pub HasLine : Problem → Command → Type 0
HasLine p (Reject c) = IsTrue (is_choice p c)
HasLine p (Approve c) = IsTrue (is_choice p c)
HasLine p (Free c) = IsTrue (is_choice p c)
HasLine p (Cap level most) = (level < 99) × FitsMost most
HasLine p (Bad kind) = ⊥
HasLine p _ = Unit {0}
