-- The texts that a run stands on, and why they were not had.
use Rattle.std.specs.Prelude.{◌≡◌, ◌⊎◌, ◌+◌, ◌≤◌, ◌<◌, ℕ, List, [], ◌∷◌, ◌++◌, length, Option, Some, None, IfSome}
use Rattle.std.specs.Option.{IsSomeAnd}
use Rattle.apt_base.specs.Faults.{Rose, IsLater, ByName, at_name, faults_of}
use Rattle.lists.specs.Members.{Member}
use Rattle.problem.specs.declared.limits.Which.TheVariants.{FileBytes}
use Rattle.resolve_words.specs.Given.{Given}
use Rattle.run_status.specs.declared.Status.{Status}
use Rattle.run_status.specs.declared.Status.TheVariants.{ReadFault, NoMemory, Limit}
use Rattle.sample_maker.specs.Samples.{status_text, packages_text}
use Rattle.universe_model.specs.Limits.{most_file_bytes}
use Rattle.sources.specs.declared.Sources as code

-- ---- the texts

-- those of the status file, of the packages file, and of the hint file, which is empty where none is named
pub record Sources : Type 0 where
  pub status : List ℕ
  pub packages : List ℕ
  pub hints : List ℕ

abbrev pub sources_of : code.Sources → Sources
sources_of s = record { status = s.status.items; packages = s.packages.items; hints = s.hints.items }

-- a file of this name was read, within the limit; what the text is holds where the files are told
pub record IsRead (files : Option (ByName (List ℕ))) (name text : List ℕ) : Type 0 where
  pub text_is : IfSome files (λ told. at_name told name ≡ Some text)
  pub small : length text ≤ most_file_bytes

-- the file that is named was read; where none is, the text is empty
abbrev pub IsReadIf : Option (ByName (List ℕ)) → Option (List ℕ) → List ℕ → Type 0
IsReadIf files (Some name) text = IsRead files name text
IsReadIf files None text = text ≡ []

-- The status and the packages text are those of a generated universe, or of the two files.
abbrev pub AreUniverse : Option (ByName (List ℕ)) → Given → List ℕ → List ℕ → Option (ℕ × ℕ) → Type 0
AreUniverse files g status packages (Some sample) = (status ≡ status_text sample.0 sample.1) × (packages ≡ packages_text sample.0 sample.1)
AreUniverse files g status packages None = IsReadIf files g.status status × IsReadIf files g.packages packages

-- The texts are those that the settings name.
pub record AreSources (files : Option (ByName (List ℕ))) (g : Given) (s : Sources) : Type 0 where
  pub universe : AreUniverse files g s.status s.packages g.sample
  pub hints : IsReadIf files g.hints s.hints

-- ---- the files that are asked for

abbrev pub listed : Option (List ℕ) → List (List ℕ)
listed None = []
listed (Some name) = name ∷ []

abbrev pub universe_names : Given → Option (ℕ × ℕ) → List (List ℕ)
universe_names g None = listed g.status ++ listed g.packages
universe_names g (Some sample) = []

-- The names of the files that settings ask for, in their order: with a sample that of the hint file alone.
abbrev pub names_of : Given → List (List ℕ)
names_of g = universe_names g g.sample ++ listed g.hints

-- a shelf was asked for no other names than these: no other name's count changed, and no count fell
pub record CountsAmong (names : List (List ℕ)) (before now : ByName ℕ) : Type 0 where
  pub later : (name : List ℕ) → IsLater (faults_of before name) (faults_of now name)
  pub others : (name : List ℕ) → (Member name names → ⊥) → at_name now name ≡ at_name before name

-- ---- why the texts were not had

-- Why a file of this name was not read.
abbrev pub IsUnread : Option (ByName (List ℕ)) → ByName ℕ → ByName ℕ → List ℕ → Status → Type 0
IsUnread files before now name ReadFault = Rose (faults_of before name) (faults_of now name)
IsUnread files before now name (Limit FileBytes count) =
    (count ≡ most_file_bytes + 1) × IfSome files (λ told. IsSomeAnd (at_name told name) (λ text. most_file_bytes < length text))
IsUnread files before now name NoMemory = Unit {0}
IsUnread files before now name _ = ⊥

-- Of the files with these names, one was not read. Those before it were read, and those behind it were not asked for.
pub record IsCut (files : Option (ByName (List ℕ))) (before now : ByName ℕ) (names : List (List ℕ)) (status : Status) : Type 0 where
  pub read : List (List ℕ)
  pub name : List ℕ
  pub unasked : List (List ℕ)
  pub order : names ≡ read ++ name ∷ unasked
  pub texts : (other : List ℕ) → Member other read → (text : List ℕ) × IsRead files other text
  pub cause : IsUnread files before now name status
  pub counts : CountsAmong (read ++ name ∷ []) before now

-- Why texts with these names were not had: one was not read, or memory was wanting before any was asked for.
abbrev pub AreUnread : Option (ByName (List ℕ)) → ByName ℕ → ByName ℕ → List (List ℕ) → Status → Type 0
AreUnread files before now names status = ((status ≡ NoMemory) × (now ≡ before)) ⊎ IsCut files before now names status
