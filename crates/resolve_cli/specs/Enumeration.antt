-- What the deliveries of a run are, where no rule stood.
use Rattle.std.specs.Prelude.{◌≡◌, ℕ, ◌∷◌, ◌++◌}
use Rattle.resolver_model.specs.Answers.{Setting}
use Rattle.resolver_model.specs.Enumeration.{IsWithoutRules, AreMinimalSolutions}
use Rattle.resolver_model.specs.Histories.{History, given_at}
use Rattle.resolver_model.specs.declared.history.Command.TheVariants.{Next}
use Rattle.resolver_model.specs.declared.history.Entry.TheVariants.{Say}
use Rattle.resolver_model.specs.declared.history.Reply.TheVariants.{NoMore}

-- Where "no more" was answered, and no rule stood at it and at any delivery before it, the sets delivered by then are the minimal
-- solutions, each once.
abbrev pub EnumeratesAtNoMore : Setting → History → Type 0
EnumeratesAtNoMore s history = (before : History) (actor : ℕ) (after : History) → history ≡ before ++ Say actor Next NoMore ∷ after → IsWithoutRules s before
    → AreMinimalSolutions s.problem (given_at before)
