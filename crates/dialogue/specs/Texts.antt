-- The texts of the dialogue, as templates that read like the text that they make.
use Rattle.std.specs.Prelude.{ℕ, ◌+◌, ◌-◌, List, [], ◌++◌, length, codes, IsTrue, ⊤}
use Rattle.std.specs.List.{filter, flat_map}
use Rattle.std.specs.Fmt.{decimal}
use Rattle.resolver_model.specs.declared.marks.Mark.{Mark}
use Rattle.resolver_model.specs.declared.marks.Mark.TheVariants as mark
use Rattle.resolver_model.specs.declared.history.BadLine.{BadLine}
use Rattle.resolver_model.specs.declared.history.BadLine.TheVariants.{Unknown, Words, NotAToken, NoSuchPackage, NoSuchVersion, NotAChoice, NotACap}
use Rattle.resolver_model.specs.declared.history.Reply.{Reply}
use Rattle.resolver_model.specs.declared.history.Reply.TheVariants.{Solution, NoMore, NotYet, Marked, Rules, Summary, NotShown, AtFirst, RuledOut, OverCap, NoLevel, Accepted, Ended, Misread}
use Rattle.resolver_model.specs.Problems.{Problem, version_count, package_count, dependency_count, below, is_open, is_choice_set}
use Rattle.resolver_model.specs.Costs.{Table, cost}
use Rattle.resolver_model.specs.Rules.{Cap}
use Rattle.universe_model.specs.Universes.{Universe}
use Rattle.universe_model.specs.Tokens.{token}

-- the dependencies that are open where nothing is chosen
abbrev pub open_at_start : Problem → List ℕ
open_at_start p = filter (is_open p []) (below (dependency_count p))

-- `aptres: P packages, V versions, D dependencies, B broken`, where what is absent is no version
abbrev pub greeting : Problem → List ℕ
greeting p =
    codes "aptres: " ++ decimal (package_count p) ++ codes " packages, " ++ decimal (version_count p - package_count p) ++ codes " versions, "
    ++ decimal (dependency_count p) ++ codes " dependencies, " ++ decimal (length (open_at_start p)) ++ codes " broken\n"

-- `[CURSOR/DELIVERIES]> `, with one space at the end and no newline
abbrev pub prompt : ℕ → ℕ → List ℕ
prompt cursor deliveries = codes "[" ++ decimal cursor ++ codes "/" ++ decimal deliveries ++ codes "]> "

-- the components of a cost, each behind a space
abbrev pub cost_text : List ℕ → List ℕ
cost_text parts = flat_map (λ part. codes " " ++ decimal part) parts

-- `  TOKEN`
abbrev pub choice_line : Universe → Problem → ℕ → List ℕ
choice_line u p c = codes "  " ++ token u p c ++ codes "\n"

-- `Solution K cost C1 C2 ..`, and then the choices, rising
abbrev pub solution_text : Universe → Problem → Table → ℕ → List ℕ → List ℕ
solution_text u p table number set =
    codes "Solution " ++ decimal number ++ codes " cost" ++ cost_text (cost table set) ++ codes "\n" ++ flat_map (choice_line u p) set

abbrev pub mark_word : Mark → List ℕ
mark_word mark.Free = codes "free "
mark_word mark.Approved = codes "approve "
mark_word mark.Rejected = codes "reject "

-- `  reject TOKEN` or `  approve TOKEN`
abbrev pub mark_line : Universe → Problem → (ℕ × Mark) → List ℕ
mark_line u p marked = codes "  " ++ mark_word marked.1 ++ token u p marked.0 ++ codes "\n"

-- `  cap LEVEL N`, where levels are counted from 1
abbrev pub cap_line : Cap → List ℕ
cap_line cap = codes "  cap " ++ decimal (cap.0 + 1) ++ codes " " ++ decimal cap.1 ++ codes "\n"

-- `Rules N`, and then the marks, rising by choice, and the caps, rising by level
abbrev pub rules_text : Universe → Problem → List (ℕ × Mark) → List Cap → List ℕ
rules_text u p marks caps =
    codes "Rules " ++ decimal (length marks + length caps) ++ codes "\n" ++ flat_map (mark_line u p) marks ++ flat_map cap_line caps

abbrev pub fault_words : BadLine → List ℕ
fault_words Unknown = codes "unknown command\n"
fault_words Words = codes "wrong number of words\n"
fault_words NotAToken = codes "not a token\n"
fault_words NoSuchPackage = codes "no such package\n"
fault_words NoSuchVersion = codes "no such version\n"
fault_words NotAChoice = codes "not a choice\n"
fault_words NotACap = codes "not a cap\n"

-- the text of a reply
abbrev pub reply_text : Universe → Problem → Table → Reply → List ℕ
reply_text u p table (Solution number set fresh) = solution_text u p table number set
reply_text u p table NoMore = codes "No more solutions\n"
reply_text u p table (NotYet steps) = codes "Not yet, " ++ decimal steps ++ codes " steps\n"
reply_text u p table Marked = codes "Marked\n"
reply_text u p table (Rules marks caps) = rules_text u p marks caps
reply_text u p table (Summary deliveries choices) = codes "Summary: " ++ decimal deliveries ++ codes " deliveries, " ++ decimal choices ++ codes " choices\n"
reply_text u p table NotShown = codes "No solution is shown\n"
reply_text u p table AtFirst = codes "At the first solution\n"
reply_text u p table (RuledOut c) = codes "Ruled out by " ++ token u p c ++ codes "\n"
reply_text u p table (OverCap level) = codes "Over cap " ++ decimal (level + 1) ++ codes "\n"
reply_text u p table NoLevel = codes "No such level\n"
reply_text u p table Accepted = codes "Accepted\n"
reply_text u p table Ended = codes "Ended\n"
reply_text u p table (Misread kind) = codes "Bad line: " ++ fault_words kind

-- The set of a solution is one of the problem's choice sets, so it has a cost.
abbrev pub HasCost : Problem → Reply → Type 0
HasCost p (Solution number set fresh) = IsTrue (is_choice_set p set)
HasCost p _ = ⊤
