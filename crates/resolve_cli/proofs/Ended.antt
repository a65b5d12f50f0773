-- Why a run ended, whether it had workers or not.
use Rattle.std.proofs.Common.{inl, inr, ◌≡◌, ◌⊎◌, List, []}
use Rattle.clap.specs.Words.{Text}
use Rattle.resolver_model.specs.Histories.{History}
use Rattle.run_status.specs.declared.Status.{Status}
use Rattle.talk.specs.Ends.{IsEnd}
use Rattle.shared_talk.specs.Shared.{own_part}
use Rattle.resolve_cli.specs.Beginnings.{IsRefusal}
use Rattle.resolve_cli.specs.Reports.{World, scene_in, IsRun}
use Rattle.resolve_cli.specs.Beside.{IsRunBeside}
use Rattle.resolve_cli.specs.declared.run.Report.{Report}

-- A dialogue was had, which ended with this status.
pub record IsDialogueEnd (old new : World) (status : Status) : Type 0 where
  pub history : History
  pub cause : IsEnd (scene_in old []) (scene_in new history) status
  pub sure : new.input.sure ≡ old.input.sure
  pub room : new.out.room ≡ old.out.room

abbrev pub IsEndedBy : List Text → World → World → Status → Type 0
IsEndedBy words old new status = IsRefusal words old.shelf new.shelf status ⊎ IsDialogueEnd old new status

pub ended_alone : (words : List Text) (old new : World) (r : Report) → IsRun words old new r → IsEndedBy words old new r.status
ended_alone words old new r run =
    elim run as (λ _. IsEndedBy words old new r.status) [
      | inl refused ↦ inl refused.cause
      | inr d ↦ let over = d.spoken.over in inr (record { history = r.history.items; cause = over.cause; sure = over.input.sure; room = over.out.room })
    ]

pub ended_beside : (words : List Text) (old new : World) (r : Report) → IsRunBeside words old new r → IsEndedBy words old new r.status
ended_beside words old new r run =
    elim run as (λ _. IsEndedBy words old new r.status) [
      | inl refused ↦ inl refused.cause
      | inr d ↦ let over = d.spoken.over.own in inr (record { history = own_part r.history.items; cause = over.cause; sure = over.input.sure; room = over.out.room })
    ]
