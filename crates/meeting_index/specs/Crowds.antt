-- Names that many carry, and their carriers.
use Rattle.std.specs.Prelude.{◌≡◌, ◌⊎◌, ◌<◌, ◌+◌, ℕ, Bool, true, false, ◌&&◌, List, length, nat_eq, nat_lt, slice_index_or, Option, Some, None}
use Rattle.std.specs.List.{Contains, list_any, slice_get}
use Rattle.std.specs.Map.{lookup}
use Rattle.ascii.specs.Texts.{is_same}
use Rattle.dep_fields.specs.Relationships.{VersionBound}
use Rattle.lists.specs.Sets.{has}
use Rattle.meeting_index.specs.Carriers.{Carrier, is_named, met_under}
use Rattle.meeting_index.specs.Fitting.{fits, has_fitting}
use Rattle.meeting_index.specs.Members.{IsReal}
use Rattle.meeting_index.specs.Spans.{span_of}
use Rattle.meeting_index.specs.declared.carried.Carried.{Carried}
use Rattle.meeting_index.specs.Named.{has_same}
use Rattle.meeting_index.specs.NameTables.{numbers_at}
use Rattle.meeting_index.specs.declared.crowd.Crowd.{Crowd}
use Rattle.meeting_index.specs.declared.crowds.Crowds.{Crowds}
use Rattle.meeting_index.specs.declared.named.Name.{Name}
use Rattle.meeting_index.specs.declared.named.Named.{Named}
use Rattle.meeting_index.specs.declared.rows.NamedNumbers.{NamedNumbers}

-- whether one of a crowd passes a bound, and stands for the version c
abbrev pub crowd_has : Crowd → Option VersionBound → ℕ → Bool
crowd_has crowd None c = has crowd.all.items c
crowd_has crowd (Some bound) c = has_fitting crowd.by_version.items bound c

abbrev pub kept_has : Option Crowd → Option VersionBound → ℕ → Bool
kept_has None bound c = false
kept_has (Some crowd) bound c = crowd_has crowd bound c

-- ---- carriers within a bound

-- one of those that a crowd keeps
abbrev pub Keeps : Crowd → Carried → Type 0
Keeps crowd y = Contains crowd.by_version.items y ⊎ (Contains crowd.least.items y ⊎ Contains crowd.greatest.items y)

-- one within a bound, whose number is within all bounds to the same side that it is within
pub record IsInside (crowd : Crowd) (bound : VersionBound) (y : Carried) : Type 0 where
  pub there : Keeps crowd y
  pub within : fits bound y ≡ true
  pub serves : (other : VersionBound) → span_of other.op ≡ span_of bound.op → fits other y ≡ true → crowd_has crowd (Some other) y.number ≡ true

-- the number of a carrier at the edge of those within a bound: all within the bound are within all bounds to the same side that it is within
pub record IsEdge (crowd : Crowd) (bound : VersionBound) (carrier : ℕ) : Type 0 where
  pub carried : Carried
  pub there : Keeps crowd carried
  pub is : carried.carrier ≡ carrier
  pub within : fits bound carried ≡ true
  pub least : (other : VersionBound) → span_of other.op ≡ span_of bound.op → fits other carried ≡ true
      → (c : ℕ) → crowd_has crowd (Some bound) c ≡ true → crowd_has crowd (Some other) c ≡ true

-- ---- crowds by their names

abbrev pub crowds_have : Crowds → List ℕ → Option VersionBound → ℕ → Bool
crowds_have crowds bytes bound c = kept_has (lookup (λ (name : Name). is_same bytes name.bytes.now) crowds.by_name.entries) bound c

-- the crowd of a name has a carrier at the edge of those within a bound
pub record HasEdge (crowds : Crowds) (bytes : List ℕ) (bound : VersionBound) (carrier : ℕ) : Type 0 where
  pub crowd : Crowd
  pub is : lookup (λ (name : Name). is_same bytes name.bytes.now) crowds.by_name.entries ≡ Some crowd
  pub edge : IsEdge crowd bound carrier

-- whether a name has too many carriers to look through them one by one
abbrev pub is_crowd : List ℕ → Bool
is_crowd numbers = nat_lt 16 (length numbers)

-- the name at a place of names in order is also that of the sixteenth name behind it: so it is crowded
pub record BeginsCrowd (names : List Named) (place : ℕ) : Type 0 where
  pub within : place + 16 < length names
  pub same : (d : Named) → is_same (slice_index_or names place d).bytes.now (slice_index_or names (place + 16) d).bytes.now ≡ true

-- whether a carrier has a name, passes a bound, and stands for the version c
abbrev pub meets_under : List ℕ → Option VersionBound → ℕ → Carrier → Bool
meets_under name bound c carrier = (is_named name carrier && carrier.passes bound) && nat_eq carrier.version c

-- whether the carrier with a number passes a bound, and stands for the version c
abbrev pub finds_as : List Carrier → Option VersionBound → ℕ → ℕ → Bool
finds_as carriers bound c number = has (met_under bound (slice_get carriers number)) c

-- those that a crowd keeps are carriers with these numbers
abbrev pub IsRealCrowd : List Carrier → List ℕ → Crowd → Type 0
IsRealCrowd carriers numbers crowd = (y : Carried) → Keeps crowd y → IsReal carriers numbers y

-- a crowd has what the carriers with these numbers find
pub record IsCrowdOf (carriers : List Carrier) (numbers : List ℕ) (crowd : Crowd) : Type 0 where
  pub finds : (bound : Option VersionBound) (c : ℕ) → crowd_has crowd bound c ≡ list_any (finds_as carriers bound c) numbers
  pub real : IsRealCrowd carriers numbers crowd

-- the crowd of a name has what its carriers find
pub record HasCrowd (carriers : List Carrier) (named : NamedNumbers) (crowds : Crowds) (name : Name) : Type 0 where
  pub finds : (bound : Option VersionBound) (c : ℕ)
      → crowds_have crowds name.bytes.now bound c ≡ list_any (finds_as carriers bound c) (numbers_at named name.bytes.now)
  pub real : (crowd : Crowd) → lookup (has_same name) crowds.by_name.entries ≡ Some crowd → IsRealCrowd carriers (numbers_at named name.bytes.now) crowd

-- each name has no crowd, or has that of its carriers
abbrev pub AreRight : List Carrier → NamedNumbers → Crowds → Type 0
AreRight carriers named crowds = (name : Name) → (lookup (has_same name) crowds.by_name.entries ≡ None) ⊎ HasCrowd carriers named crowds name

-- where these bytes are crowded, each name that has them has its crowd
abbrev pub ArePut : List Carrier → NamedNumbers → Crowds → List ℕ → Type 0
ArePut carriers named crowds bytes =
    is_crowd (numbers_at named bytes) ≡ true → (name : Name) → is_same bytes name.bytes.now ≡ true → HasCrowd carriers named crowds name
