-- What a run's session stands on, or why it has none.
use Rattle.std.specs.Prelude.{◌≡◌, ◌⊎◌, ℕ, List, Option, IsTrue}
use Rattle.apt_base.specs.Faults.{ByName}
use Rattle.apt_base.specs.Files.{ShelfState}
use Rattle.clap.specs.Words.{Text}
use Rattle.grounds.specs.Grounds as ground
use Rattle.resolve_cli.specs.Words.{is_accepted, settings_in}
use Rattle.resolve_cli.specs.declared.prepared.Prepared.{Prepared}
use Rattle.resolve_words.specs.Given as given
use Rattle.resolver_model.specs.Answers.{Setting}
use Rattle.run_status.specs.declared.Status.{Status}
use Rattle.run_status.specs.declared.Status.TheVariants.{Usage, NoMemory}
use Rattle.search_core.specs.Sessions.{setting_of}
use Rattle.sources.specs.Sources.{Sources, AreSources, AreUnread, names_of}
use Rattle.talk.specs.Transcripts.{Script}

-- The words give a session its slice, and the texts that they name what it stands on, where nothing refuses them.
pub record IsPrepared (words : List Text) (files : Option (ByName (List ℕ))) (prepared : Prepared) : Type 0 where
  pub accepted : IsTrue (is_accepted words)
  pub texts : Sources
  pub read : AreSources files (settings_in words) texts
  pub stands : ground.IsGround (settings_in words) texts prepared.ground
  pub slice_is : prepared.slice ≡ (settings_in words).slice
  pub workers_are : prepared.workers ≡ (settings_in words).workers

-- the setting of a session with one actor over what was prepared
abbrev pub setting_by : Prepared → Setting
setting_by p = setting_of p.ground.basis.problem p.ground.basis.table p.ground.rules p.slice 1

-- what its texts depend on
abbrev pub script_by : Prepared → Script
script_by p = record { universe = p.ground.universe; problem = p.ground.basis.problem; table = p.ground.basis.table }

-- The words are refused, for their first fault, or for want of memory.
abbrev pub IsAtWords : List Text → Status → Type 0
IsAtWords words (Usage fault) = given.IsRefusal words fault
IsAtWords words NoMemory = Unit {0}
IsAtWords words _ = ⊥

-- The words are accepted, and one of the texts that they name was not had.
pub record IsAtTexts (words : List Text) (old new : ShelfState) (status : Status) : Type 0 where
  pub accepted : IsTrue (is_accepted words)
  pub unread : AreUnread old.files old.asked new.asked (names_of (settings_in words)) status

-- The words are accepted and the texts were had; what they give is refused, for the first refusal, or for want of memory.
pub record IsAtGround (words : List Text) (old : ShelfState) (status : Status) : Type 0 where
  pub accepted : IsTrue (is_accepted words)
  pub texts : Sources
  pub read : AreSources old.files (settings_in words) texts
  pub refused : ground.IsRefused (ground.refusal (settings_in words) texts) status

-- Why a run ends before its session, in the order in which it is looked for.
abbrev pub IsRefusal : List Text → ShelfState → ShelfState → Status → Type 0
IsRefusal words old new status = IsAtWords words status ⊎ IsAtTexts words old new status ⊎ IsAtGround words old status
