-- The index of a problem: the lists of its dependencies by version and by package; and the room that is made for them.
use Rattle.std.specs.Prelude.{◌≡◌, ◌≤◌, ◌<◌, ℕ, ◌+◌, List, [], ◌∷◌, length, slice_index, slice_index_or, replicate}
use Rattle.std.specs.List.{sum}
use Rattle.resolver_model.specs.Problems.{Problem, version_count, package_count, dependency_count}
use Rattle.problem.specs.Limits.{target_count}
use Rattle.problem.specs.Rooms.{Rooms, no_rooms, with_room, Laid, room_of}
use Rattle.problem.specs.Touching.{deps_of, deps_on, touching, broken_at_start}

pub record Index : Type 0 where
  -- by version: the dependencies with it as source
  pub of : List (List ℕ)
  -- by version: the dependencies with it as a target
  pub on : List (List ℕ)
  -- by package: the dependencies that touch it
  pub touching : List (List ℕ)

-- there are so many lists, and each is that of its number
pub record ListsBy (list : ℕ → List ℕ) (count : ℕ) (lists : List (List ℕ)) : Type 0 where
  pub size : length lists ≡ count
  pub each : (k : ℕ) → k < count → slice_index_or lists k [] ≡ list k

pub record IsIndexOf (p : Problem) (i : Index) : Type 0 where
  pub of : ListsBy (deps_of p) (version_count p) i.of
  pub on : ListsBy (deps_on p) (version_count p) i.on
  pub touching : ListsBy (touching p) (package_count p) i.touching

-- room for each of the lists of an index
pub record IndexRoom : Type 0 where
  pub of : Rooms
  pub on : Rooms
  pub touching : Rooms

abbrev pub no_index_room : IndexRoom
no_index_room = record { of = no_rooms; on = no_rooms; touching = no_rooms }

-- there is room for so many lists, and for `total` numbers in all of them together
pub record HasRoom (list : ℕ → List ℕ) (count total : ℕ) (r : Rooms) : Type 0 where
  pub many : count ≤ length r.places
  pub each : (k : ℕ) → k < count → length (list k) ≤ slice_index r.places k
  pub all : sum r.places ≡ total
  pub size : total ≤ r.size

pub record HasIndexRoom (p : Problem) (r : IndexRoom) : Type 0 where
  pub of : HasRoom (deps_of p) (version_count p) (dependency_count p) r.of
  pub on : HasRoom (deps_on p) (version_count p) (target_count p) r.on
  pub touching : HasRoom (touching p) (package_count p) (dependency_count p + target_count p) r.touching

-- so many lists by version and by package
pub record HasListsFor (versions packages : ℕ) (r : IndexRoom) : Type 0 where
  pub of : versions ≤ length r.of.places
  pub on : versions ≤ length r.on.places
  pub touching : packages ≤ length r.touching.places

-- tables for so many dependencies with so many targets
pub record HasSizesFor (deps targets : ℕ) (r : IndexRoom) : Type 0 where
  pub of : deps ≤ r.of.size
  pub on : targets ≤ r.on.size
  pub touching : deps + targets ≤ r.touching.size

-- with one more dependency on so many targets, each place has a number of 32 bits
pub record IsFew (targets : ℕ) (r : IndexRoom) : Type 0 where
  pub of : sum r.of.places + 1 < 4294967296
  pub on : sum r.on.places + targets < 4294967296
  pub touching : sum r.touching.places + 1 + targets < 4294967296

-- room for one more dependency, with these versions and packages
abbrev pub with_dep_room : IndexRoom → ℕ → List ℕ → List ℕ → IndexRoom
with_dep_room r source targets packages = record {
  of = with_room r.of (source ∷ []);
  on = with_room r.on targets;
  touching = with_room r.touching packages;
}

-- empty lists, each with room for that of its number
pub record IsEmptyFor (list : ℕ → List ℕ) (count : ℕ) (l : Laid) : Type 0 where
  pub lists : l.lists ≡ replicate count []
  pub rooms : (k : ℕ) → k < count → length (list k) ≤ room_of l k

-- What holds of a problem, its index, and the list of what is broken at the start.
pub record IsIndexed (p : Problem) (i : Index) (deps : List ℕ) : Type 0 where
  pub listed : IsIndexOf p i
  pub broken : deps ≡ broken_at_start p

-- What holds of a problem while it is built, the room for its index, and the list of what is broken at the start.
pub record IsBuilding (p : Problem) (r : IndexRoom) (deps : List ℕ) : Type 0 where
  pub room : HasIndexRoom p r
  pub broken : deps ≡ broken_at_start p
