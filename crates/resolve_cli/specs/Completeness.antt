-- Runs to which nothing is wanting.
use Rattle.std.specs.Prelude.{◌≡◌, ◌⊎◌, ◌≤◌, ℕ, List, length, Some, None, IsTrue}
use Rattle.apt_base.specs.Faults.{Rose, ByName, at_name, faults_of}
use Rattle.apt_base.specs.Lines.{lines_of, before_newline, most_line_bytes}
use Rattle.clap.specs.Words.{Text}
use Rattle.grounds.specs.Grounds.{refusal}
use Rattle.lists.specs.Members.{Member}
use Rattle.resolve_cli.specs.Reports.{World}
use Rattle.resolve_cli.specs.Words.{is_accepted, settings_in, names_in}
use Rattle.run_status.specs.declared.Status.{Status}
use Rattle.run_status.specs.declared.Status.TheVariants.{Accepted, Ended, NoMemory}
use Rattle.sources.specs.Sources.{Sources, AreSources}
use Rattle.talk.specs.Ends.{most_lines, behind_lines}
use Rattle.universe_model.specs.Limits.{most_file_bytes}

-- each line of an input is short enough, and there are few enough
pub record AreLinesFit (bytes : List ℕ) : Type 0 where
  pub short : (n : ℕ) → length (before_newline (behind_lines n bytes)) ≤ most_line_bytes
  pub few : length (lines_of bytes) ≤ most_lines

-- a file of this name is there, within the limit
abbrev pub IsThere : ByName (List ℕ) → List ℕ → Type 0
IsThere files name = (text : List ℕ) × (at_name files name ≡ Some text) × (length text ≤ most_file_bytes)

-- The words are accepted, the files and the input are told, there and within their limits, nothing refuses what the texts give, and
-- no count of faults rose that counts for the run.
pub record IsWellProvided (words : List Text) (old new : World) : Type 0 where
  pub accepted : IsTrue (is_accepted words)
  pub files : ByName (List ℕ)
  pub told : old.shelf.files ≡ Some files
  pub there : (name : List ℕ) → Member name (names_in words) → IsThere files name
  pub unrefused : (texts : Sources) → AreSources (Some files) (settings_in words) texts → refusal (settings_in words) texts ≡ None
  pub input : List ℕ
  pub input_told : old.input.left ≡ Some input
  pub lines : AreLinesFit input
  pub shelf_sound : (name : List ℕ) → Member name (names_in words) → Rose (faults_of old.shelf.asked name) (faults_of new.shelf.asked name) → ⊥
  pub input_sound : Rose old.input.faults new.input.faults → ⊥
  pub out_sound : Rose old.out.faults new.out.faults → ⊥

-- a solution was accepted, the user or the input made an end, or memory was wanting
abbrev pub EndsWell : Status → Type 0
EndsWell status = (status ≡ Accepted) ⊎ (status ≡ Ended) ⊎ (status ≡ NoMemory)
