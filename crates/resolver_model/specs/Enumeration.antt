-- What a session without rules has enumerated once no more is left.
use Rattle.std.specs.Prelude.{◌≡◌, ℕ, true, List, ◌∷◌, ◌++◌}
use Rattle.lists.specs.Members.{Member}
use Rattle.resolver_model.specs.declared.history.Command.{Command}
use Rattle.resolver_model.specs.declared.history.Command.TheVariants.{Next}
use Rattle.resolver_model.specs.declared.history.Reply.TheVariants.{Solution, NoMore}
use Rattle.resolver_model.specs.declared.history.Entry.TheVariants.{Say}
use Rattle.resolver_model.specs.Problems.{Problem, IsMinimalSolution}
use Rattle.resolver_model.specs.Rules.{no_rules}
use Rattle.resolver_model.specs.Histories.{History, given_at, rules_at}
use Rattle.resolver_model.specs.Answers.{Setting, IsRightAnswer, AreAnswersRight}

-- no rule stood at any delivery, and none stands now
pub record IsWithoutRules (s : Setting) (history : History) : Type 0 where
  pub delivered : (before : History) (actor : ℕ) (command : Command) (number : ℕ) (set : List ℕ) (after : History)
      → history ≡ before ++ Say actor command (Solution number set true) ∷ after → rules_at s.first_rules before ≡ no_rules
  pub now : rules_at s.first_rules history ≡ no_rules

-- the sets are the minimal solutions, each once
pub record AreMinimalSolutions (p : Problem) (sets : List (List ℕ)) : Type 0 where
  pub each : (set : List ℕ) → Member set sets → IsMinimalSolution p set
  pub all : (set : List ℕ) → IsMinimalSolution p set → Member set sets
  pub once : (before : List (List ℕ)) (set : List ℕ) (after : List (List ℕ)) → sets ≡ before ++ set ∷ after → Member set before → ⊥

-- What a session has delivered, where no rule stood and the answer to a request is now "no more": the minimal solutions.
abbrev pub EnumeratesMinimal : Type 0
EnumeratesMinimal = (s : Setting) (history : History) (actor : ℕ) → AreAnswersRight s history → IsWithoutRules s history
    → IsRightAnswer s history actor Next NoMore → AreMinimalSolutions s.problem (given_at history)
