-- Sources and sinks of bytes: what a caller sees of them, and what each call does.
use Rattle.std.specs.Prelude.{◌≡◌, ℕ, ◌+◌, ◌<◌, ◌≤◌, Bool, false, List, [], length, take, Option, Result, Ok, Err, None, IfOk, IfSome, IsTrue}
use Rattle.std.specs.Option.{IsSomeAnd}
use Rattle.std.specs.Io.KnownBytes.{prepend_known, append_known, IsAtEnd}
use Rattle.apt_base.specs.Faults.{HasCause}
use Rattle.apt_base.specs.declared.calls.Failed.{Failed}

-- the bytes that a call moved, the front of these: none where it failed
abbrev pub moved : Result ℕ Failed → List ℕ → List ℕ
moved (Ok count) bytes = take count bytes
moved (Err _) bytes = []

-- What a read into a buffer does to the bytes that are left. These are Some where they are told.
pub record Takes (old : Option (List ℕ)) (result : Result ℕ Failed) (buffer : List ℕ) (new : Option (List ℕ)) : Type 0 where
  -- it gives at most the buffer's length, so nothing into an empty buffer
  pub within : IfOk result (λ count. count ≤ length buffer)
  -- what it gives is the front of what was left, and the rest is left; a call that fails takes nothing
  pub front : old ≡ prepend_known (moved result buffer) new
  -- into a buffer that is not empty it gives nothing only at the end
  pub at_end : IfOk result (λ count. 0 < length buffer → count ≡ 0 → IsAtEnd new)

-- at most this many bytes were taken from the front of those that were left
abbrev pub TakesAtMost : ℕ → Option (List ℕ) → Option (List ℕ) → Type 0
TakesAtMost most old new = (front : List ℕ) × (length front ≤ most) × (old ≡ prepend_known front new)

-- what was held, and what was taken from the front of those that were left, are together at most so many bytes
abbrev pub TakesBeside : ℕ → List ℕ → Option (List ℕ) → Option (List ℕ) → Type 0
TakesBeside most held old new = (front : List ℕ) × (length held + length front ≤ most) × (old ≡ prepend_known front new)

-- the first bytes were written, not all of these
abbrev pub WritesPrefix : Option (List ℕ) → List ℕ → Option (List ℕ) → Type 0
WritesPrefix old bytes new = (count : ℕ) × (count < length bytes) × (new ≡ append_known old (take count bytes))

-- A source of bytes.
pub record SourceState : Type 0 where
  -- whether it is sure not to fail
  pub sure : Bool
  -- how often it has failed
  pub faults : ℕ
  -- the bytes that are left, where it tells them
  pub left : Option (List ℕ)

-- a sure source has never failed
abbrev pub IsSourceState : SourceState → Type 0
IsSourceState source = IsTrue source.sure → source.faults ≡ 0

-- a source that is not sure
pub untold_source : (faults : ℕ) → IsSourceState (record { sure = false; faults = faults; left = None })
untold_source faults sure = cc

-- one call of `read`, which leaves these bytes in the buffer
pub record IsRead (old : SourceState) (result : Result ℕ Failed) (buffer : List ℕ) (new : SourceState) : Type 0 where
  pub sure : new.sure ≡ old.sure
  pub cause : HasCause old.faults new.faults result
  pub bytes : Takes old.left result buffer new.left

-- A sink of bytes.
pub record SinkState : Type 0 where
  -- how many bytes it takes in all without failing, where it is sure
  pub room : Option ℕ
  -- how often it has failed
  pub faults : ℕ
  -- the bytes that were written, where it tells them
  pub written : Option (List ℕ)

-- a sure sink tells its bytes, and has never failed while these are fewer than its room
abbrev pub IsSinkState : SinkState → Type 0
IsSinkState sink = IfSome sink.room (λ room. IsSomeAnd sink.written (λ bytes. length bytes < room → sink.faults ≡ 0))

-- one call of `write` with this piece
pub record IsWrite (old : SinkState) (piece : List ℕ) (result : Result ℕ Failed) (new : SinkState) : Type 0 where
  pub room : new.room ≡ old.room
  pub cause : HasCause old.faults new.faults result
  -- it takes at most the piece's length, so nothing of an empty piece
  pub within : IfOk result (λ count. count ≤ length piece)
  -- of a piece that is not empty it takes at least one byte
  pub some : IfOk result (λ count. 0 < length piece → 0 < count)
  -- what it takes is the front of the piece; a call that fails takes nothing
  pub front : new.written ≡ append_known old.written (moved result piece)

-- a sure sink has room for these bytes behind those that were written
abbrev pub HasRoom : SinkState → List ℕ → Type 0
HasRoom sink bytes = IsSomeAnd sink.room (λ room. IsSomeAnd sink.written (λ written. length written + length bytes ≤ room))
