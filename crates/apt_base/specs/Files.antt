-- Shelves of files: what a caller sees of them, and what each call does.
use Rattle.std.specs.Prelude.{◌≡◌, ◌≢◌, ◌⊎◌, ℕ, ◌<◌, ◌≤◌, Bool, false, List, length, Option, Result, Ok, Err, Some, None, IfSome, OnOk, OnErr, IsSome, IsTrue, IsErrOf}
use Rattle.std.specs.Option.{IsSomeAnd}
use Rattle.std.specs.declared.alloc.Global.{Global}
use Rattle.std.specs.Prelude.{Vec}
use Rattle.apt_base.specs.Faults.{Rose, ByName, at_name, faults_of, CountsOnly}
use Rattle.apt_base.specs.Bytes.{Takes, TakesAtMost}
use Rattle.apt_base.specs.declared.calls.Failed.{Failed}
use Rattle.apt_base.specs.declared.calls.OpenEnd.{OpenEnd}
use Rattle.apt_base.specs.declared.calls.OpenEnd.TheVariants as open_end
use Rattle.apt_base.specs.declared.whole.ReadEnd.{ReadEnd}
use Rattle.apt_base.specs.declared.whole.ReadEnd.TheVariants as read_end

-- A shelf of files, each with a name.
pub record ShelfState : Type 0 where
  -- whether it is sure not to fail for the files that are there
  pub sure : Bool
  -- the names that were asked for, each with how often the shelf has failed for it
  pub asked : ByName ℕ
  -- the files by name, where it tells them; the first counts where two have one name
  pub files : Option (ByName (List ℕ))
  -- the name of the open file
  pub opened : Option (List ℕ)
  -- what is left of the open file, where it tells it
  pub rest : Option (List ℕ)

-- a sure shelf tells its files, and has never failed for one of them
abbrev pub IsShelfState : ShelfState → Type 0
IsShelfState shelf = IsTrue shelf.sure → IsSomeAnd shelf.files (λ files. (name : List ℕ) → IsSome (at_name files name) → faults_of shelf.asked name ≡ 0)

-- a shelf that is not sure and tells nothing
abbrev pub untold_state : ByName ℕ → Option (List ℕ) → ShelfState
untold_state asked opened = record { sure = false; asked = asked; files = None; opened = opened; rest = None }

pub untold_shelf : (asked : ByName ℕ) (opened : Option (List ℕ)) → IsShelfState (untold_state asked opened)
untold_shelf asked opened sure = cc

-- no call changes whether a shelf is sure, or its files
pub record KeepsFiles (old new : ShelfState) : Type 0 where
  pub sure : new.sure ≡ old.sure
  pub files : new.files ≡ old.files

-- these bytes are the whole file of that name, told where the files are told
abbrev pub IsWhole : Option (ByName (List ℕ)) → List ℕ → Option (List ℕ) → Type 0
IsWhole None name bytes = bytes ≡ None
IsWhole (Some files) name bytes = IsSome bytes × (bytes ≡ at_name files name)

-- one call of `open`
pub record IsOpening (old : ShelfState) (name : List ℕ) (result : Result (Unit {0}) OpenEnd) (new : ShelfState) : Type 0 where
  pub kept : KeepsFiles old new
  pub counts : CountsOnly name old.asked new.asked
  -- the named file is the open one, and all of it is left: so `open` of a name that is not there fails
  pub opened : OnOk result (new.opened ≡ Some name)
  pub whole : OnOk result (IsWhole old.files name new.rest)
  -- the name is entered before the file is asked for
  pub entered : result ≢ Err open_end.NoMemory → IsSome (at_name new.asked name)
  -- it fails only where the count of the name rose in it, and moves no bytes
  pub failed : IsErrOf result open_end.Failed → Rose (faults_of old.asked name) (faults_of new.asked name) × (new.opened ≡ old.opened) × (new.rest ≡ old.rest)
  -- where a name can't be entered nothing changes
  pub no_memory : IsErrOf result open_end.NoMemory → new ≡ old

-- one call of `read`, which leaves these bytes in the buffer
pub record IsFileRead (old : ShelfState) (result : Result ℕ Failed) (buffer : List ℕ) (new : ShelfState) : Type 0 where
  pub kept : KeepsFiles old new
  pub opened : new.opened ≡ old.opened
  -- it fails only where the count of the open file's name rose in it
  pub cause : IfSome old.opened (λ name. CountsOnly name old.asked new.asked × OnErr result (Rose (faults_of old.asked name) (faults_of new.asked name)))
  pub bytes : Takes old.rest result buffer new.rest

-- the file of that name, where the files are told and it is there
abbrev pub told_file : Option (ByName (List ℕ)) → List ℕ → Option (List ℕ)
told_file None name = None
told_file (Some files) name = at_name files name

-- Why a file was read whole, or was not: what holds for every shelf.
-- `before` and `now` are the counts of the file's name.
abbrev pub HasReadCause : ℕ → ℕ → ℕ → Result (Vec ℕ Global) ReadEnd → Type 0
HasReadCause limit before now (Ok bytes) = length bytes.items ≤ limit
HasReadCause limit before now (Err read_end.ReadFault) = Rose before now
HasReadCause limit before now (Err (read_end.TooLong stated)) = stated ≡ limit
HasReadCause limit before now (Err read_end.NoMemory) = Unit {0}

-- a read of a whole file took at most this many of its bytes, or did not open it
abbrev pub TakesOfFile : ℕ → ShelfState → List ℕ → ShelfState → Type 0
TakesOfFile most old name new = (new.rest ≡ old.rest) ⊎ TakesAtMost most (told_file old.files name) new.rest

-- What was read, where the shelf tells its files: the whole file of that name, or that it is longer than the limit.
abbrev pub ReadsFile : ℕ → Option (List ℕ) → Result (Vec ℕ Global) ReadEnd → Type 0
ReadsFile limit file (Ok bytes) = file ≡ Some bytes.items
ReadsFile limit file (Err read_end.ReadFault) = Unit {0}
ReadsFile limit file (Err (read_end.TooLong _)) = IsSomeAnd file (λ bytes. limit < length bytes)
ReadsFile limit file (Err read_end.NoMemory) = Unit {0}
