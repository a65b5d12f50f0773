-- Where the names of each share of the hashes begin, in order of hashes.
use Rattle.std.specs.Prelude.{◌≡◌, ◌≤◌, ◌<◌, ℕ, List, true, false, length, nat_lt, slice_index}
use Rattle.std.specs.List.Sorted.{IsPartitionPoint}
use Rattle.meeting_index.specs.Named.{share_of}
use Rattle.meeting_index.specs.declared.named.Named.{Named}

-- the names up to a place are of earlier shares, and those from there on are not
pub record IsStart (names : List Named) (share place : ℕ) : Type 0 where
  pub within : place ≤ length names
  pub point : IsPartitionPoint (λ name. nat_lt (share_of name) share ≡ true) (λ name. nat_lt (share_of name) share ≡ false) names place

-- the first places are those where shares begin, in order
abbrev pub StartFirst : List Named → List ℕ → ℕ → Type 0
StartFirst names starts count = (share : ℕ) → share < count → IsStart names share (slice_index starts share)

-- the places of all shares, and the end
pub record AreStarts (names : List Named) (starts : List ℕ) : Type 0 where
  pub all : length starts ≡ 65537
  pub each : StartFirst names starts 65537
