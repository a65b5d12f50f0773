-- What an index keeps.
use Rattle.std.specs.Map.{lookup}
use Rattle.std.specs.Prelude.{Some, ◌≡◌, ◌≤◌, ℕ, Bool, true, length, map, Option}
use Rattle.std.specs.List.{list_any}
use Rattle.dep_fields.specs.Relationships.{VersionBound}
use Rattle.problem.specs.Limits.{most_versions}
use Rattle.universe_model.specs.Lists.{numbers_of}
use Rattle.universe_parts.specs.Listed.{version_listed}
use Rattle.meeting_index.specs.Carriers.{all_provided, carriers, is_named}
use Rattle.meeting_index.specs.Crowds.{IsRealCrowd, crowds_have, is_crowd, meets_under}
use Rattle.meeting_index.specs.Named.{has_same}
use Rattle.meeting_index.specs.declared.crowd.Crowd.{Crowd}
use Rattle.meeting_index.specs.NameTables.{numbers_at}
use Rattle.meeting_index.specs.Owners.{for_package}
use Rattle.meeting_index.specs.Provided.{carrier_of}
use Rattle.meeting_index.specs.declared.index.MeetingIndex.TheInside.{Inside}
use Rattle.meeting_index.specs.declared.named.Name.{Name}

-- all that the versions provide is listed, each carrier is found by its name, and those of a crowded name by their versions too,
-- and by these for their packages
pub record IsIndexed (index : Inside) : Type 0 where
  pub few : length index.versions.now ≤ most_versions
  pub provided : map carrier_of index.provided.items ≡ all_provided index.native.now (map version_listed index.versions.now)
  pub named : (name : Name) (test : ℕ → Bool)
      → list_any test (numbers_at index.named name.bytes.now) ≡ list_any test (numbers_of (is_named name.bytes.now) (carriers index.native.now (map version_listed index.versions.now)))
  pub crowds : (name : Name) → is_crowd (numbers_at index.named name.bytes.now) ≡ true → (bound : Option VersionBound) (c : ℕ)
      → crowds_have index.crowds name.bytes.now bound c ≡ list_any (meets_under name.bytes.now bound c) (carriers index.native.now (map version_listed index.versions.now))
  pub real : (name : Name) → is_crowd (numbers_at index.named name.bytes.now) ≡ true → (crowd : Crowd) → lookup (has_same name) index.crowds.by_name.entries ≡ Some crowd
      → IsRealCrowd (carriers index.native.now (map version_listed index.versions.now)) (numbers_at index.named name.bytes.now) crowd
  pub owners : (name : Name) → is_crowd (numbers_at index.named name.bytes.now) ≡ true → (bound : Option VersionBound) (q : ℕ)
      → crowds_have index.owners name.bytes.now bound q
      ≡ list_any (meets_under name.bytes.now bound q) (map (for_package (map version_listed index.versions.now)) (carriers index.native.now (map version_listed index.versions.now)))
