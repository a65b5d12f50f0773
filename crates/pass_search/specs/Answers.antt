-- What the actor of a pass enters while a command is answered through it.
use Rattle.std.specs.Prelude.{◌≡◌, ℕ, [], ◌∷◌, ◌++◌, None}
use mathlib.Core.List.{IsPrefix}
use Rattle.resolver_model.specs.declared.history.Command.{Command}
use Rattle.resolver_model.specs.declared.history.Entry.TheVariants.{Say}
use Rattle.resolver_model.specs.Histories.{History, out_at}
use Rattle.resolver_model.specs.Legal.{IsLegal}
use Rattle.search_core.specs.Sessions.{IsAnswer}
use Rattle.search_core.specs.declared.jobs.Answer.TheVariants as answer
use Rattle.search_core.specs.declared.jobs.Said.{Said}
use Rattle.cell_rule.specs.Views.{entries_by}
use Rattle.session_cell.specs.Passes.{Pass}
use Rattle.search_thread.specs.Slices as slice

-- some leaves were taken and split, and no other entry was made
abbrev pub HasSearched : Pass → Pass → Type 0
HasSearched old new = (pairs : ℕ) × slice.IsSearched old.hand new.hand pairs []

-- Memory was wanting: nothing was said. The leaf that was out was given back.
abbrev pub IsGivenUp : Pass → Pass → Type 0
IsGivenUp old new = (pairs : ℕ) × (rest : History) × slice.IsSearched old.hand new.hand pairs rest × slice.IsGivenUp old.hand.actor rest

-- The command was answered behind steps of the actor's own, and by nothing else. The reply is right after all that was entered
-- before, by whomever, which the pass has seen.
pub record IsAnswered (old : Pass) (command : Command) (new : Pass) (said : Said) : Type 0 where
  pub before : History
  pub begins : IsPrefix old.hand.seen before
  pub seen : new.hand.seen ≡ before ++ Say old.hand.actor command said.reply ∷ []
  pub legal : IsLegal new.hand.start.setting new.hand.seen
  pub right : IsAnswer new.hand.start.setting before old.hand.actor command (answer.Said said)
  pub steps : History
  pub paired : slice.ArePairs old.hand.actor steps
  pub made : new.hand.made ≡ old.hand.made ++ (steps ++ Say old.hand.actor command said.reply ∷ [])
  pub own : new.hand.made ≡ entries_by new.hand.actor new.hand.seen
  pub idle : out_at old.hand.actor new.hand.made ≡ None
