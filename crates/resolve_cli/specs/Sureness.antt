-- Objects that are sure not to fail.
use Rattle.std.specs.Prelude.{◌≤◌, ℕ, List, length, IsSome, IsTrue}
use Rattle.std.specs.Option.{IsSomeAnd}
use Rattle.apt_base.specs.Bytes.{SinkState}
use Rattle.apt_base.specs.Files.{told_file}
use Rattle.clap.specs.Words.{Text}
use Rattle.lists.specs.Members.{Member}
use Rattle.resolve_cli.specs.Reports.{World}
use Rattle.resolve_cli.specs.Words.{names_in}

-- The shelf is sure and has the files that the words ask for, and the input is sure.
pub record IsSure (words : List Text) (old : World) : Type 0 where
  pub shelf : IsTrue old.shelf.sure
  pub there : (name : List ℕ) → Member name (names_in words) → IsSome (told_file old.shelf.files name)
  pub input : IsTrue old.input.sure

-- a sink's room is full
abbrev pub IsFull : SinkState → Type 0
IsFull sink = IsSomeAnd sink.room (λ room. IsSomeAnd sink.written (λ bytes. room ≤ length bytes))
