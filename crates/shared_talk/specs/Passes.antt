-- The passes of all actors, when a run over their session is over.
use Rattle.std.specs.Prelude.{◌≡◌, ◌≢◌, ℕ, List, [], ◌∷◌}
use Rattle.apt_base.specs.Bytes.{SourceState, SinkState}
use Rattle.cell_rule.specs.declared.view.Hand.{Hand}
use Rattle.cell_rule.specs.Views.{Each}
use Rattle.run_status.specs.declared.Status.{Status}
use Rattle.session_cell.specs.Passes.{Cell, Pass, ArePassesOf, HasAll, hands_of}
use Rattle.talk.specs.Transcripts.{Script}
use Rattle.talk.specs.Ends.{Scene, commands_in}
use Rattle.talk.specs.Runs.{IsOver}
use Rattle.shared_talk.specs.Shared.{IsTalkerAlone}

-- none but actor 0 made an answer
abbrev pub IsQuietOther : Hand → Type 0
IsQuietOther h = h.actor ≢ 0 → commands_in h.made ≡ []

-- They are of the cell, one for each actor, and none but actor 0 made an answer.
pub record AreDone (cell : Cell) (passes : List Pass) : Type 0 where
  pub of_cell : ArePassesOf cell passes
  pub all : HasAll cell.start.setting.actors passes
  pub quiet : Each IsQuietOther (hands_of passes)

-- The first is actor 0's. What it made is a whole run of the dialogue, if nobody else was answered.
pub record HaveSpoken (s : Script) (status : Status) (lines : ℕ) (old : Scene) (passes : List Pass) (input : SourceState) (out : SinkState) : Type 0 where
  pub talker : Pass
  pub workers : List Pass
  pub are : passes ≡ talker ∷ workers
  pub first : talker.hand.actor ≡ 0
  pub over : IsTalkerAlone talker.hand.seen → IsOver s status lines old (record { history = talker.hand.made; input = input; out = out })
