-- The turns of a run over a shared session. While a session is shared, a pass does not know what the others will have entered, so
-- what is said of the whole rests on this: that nobody but actor 0 is answered.
use Rattle.std.specs.Prelude.{◌≡◌, ◌+◌, ℕ, List, Result, IfErr, OnOk, None}
use mathlib.Core.List.{IsPrefix}
use Rattle.apt_base.specs.Bytes.{SourceState, SinkState}
use Rattle.resolver_model.specs.Histories.{History, cursor_at, out_at}
use Rattle.resolver_model.specs.Answers.{delivery_count}
use Rattle.run_status.specs.declared.Status.{Status}
use Rattle.session_cell.specs.Passes.{Cell, Pass, IsPassOf}
use Rattle.search_thread.specs.Slices.{IsSame}
use Rattle.talk.specs.Transcripts.{Script}
use Rattle.talk.specs.Ends.{Scene, commands_in}
use Rattle.talk.specs.Turns.{GoesOn, GoesOut}
use Rattle.talk.specs.declared.turns.Place.{Place}
use Rattle.shared_talk.specs.Shared.{IsTalkerAlone}

-- the pass is actor 0's, which has no leaf out
pub record CanAnswer (cell : Cell) (pass : Pass) : Type 0 where
  pub of_cell : IsPassOf cell pass
  pub talker : pass.hand.actor ≡ 0
  pub idle : out_at 0 pass.hand.made ≡ None

-- The cursor and the count of deliveries are those of what actor 0 entered.
pub record IsAt (place : Place) (history : History) : Type 0 where
  pub cursor : place.cursor ≡ cursor_at history
  pub deliveries : place.deliveries ≡ delivery_count history

-- so it is, if nobody else is answered
abbrev pub IsPlaced : Place → Pass → Type 0
IsPlaced place pass = IsTalkerAlone pass.hand.seen → IsAt place pass.hand.made

-- the pass is the same one, and has seen what it had seen
pub record IsFurther (old new : Pass) : Type 0 where
  pub same : IsSame old new
  pub begins : IsPrefix old.hand.seen new.hand.seen

-- What a turn changes. `held` is what the reader has taken from the input and not given.
pub record Stand : Type 0 where
  pub pass : Pass
  pub place : Place
  pub lines : ℕ
  pub held : List ℕ
  pub input : SourceState
  pub out : SinkState

-- the scene, as far as actor 0 made it
abbrev pub scene_of : Stand → Scene
scene_of stand = record { history = stand.pass.hand.made; input = stand.input; out = stand.out }

-- What a turn makes of the run: it goes on, or ends with a status.
pub record IsTurnTaken (s : Script) (cell : Cell) (result : Result (Unit {0}) Status) (old new : Stand) : Type 0 where
  pub further : IsFurther old.pass new.pass
  pub ready : CanAnswer cell new.pass
  pub placed : OnOk result (IsPlaced new.place new.pass)
  pub count : OnOk result (new.lines ≡ old.lines + 1)
  pub goes_on : OnOk result (IsTalkerAlone new.pass.hand.seen → GoesOn s old.lines new.lines old.held new.held (scene_of old) (scene_of new))
  pub goes_out : IfErr result (λ status. IsTalkerAlone new.pass.hand.seen → GoesOut s status old.lines new.lines old.held (scene_of old) (scene_of new))

-- A worker searched: it made no answer, and has no leaf out.
pub record HasWorked (old new : Pass) : Type 0 where
  pub same : IsSame old new
  pub quiet : commands_in new.hand.made ≡ commands_in old.hand.made
  pub idle : out_at new.hand.actor new.hand.made ≡ None
