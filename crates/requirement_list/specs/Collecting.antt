-- What was collected of a list of dependencies, and what of it is left.
use Rattle.std.specs.Prelude.{◌≡◌, ◌<◌, ◌≤◌, Bool, true, false, List, [], ◌∷◌, ◌++◌, map, length, Result, MatchResult}
use Rattle.problem.specs.Limits.{most_dependencies, most_targets}
use Rattle.universe_model.specs.Dependencies.{Requirement}
use Rattle.universe_model.specs.Universes.{dependency_in}
use Rattle.universe_model.specs.declared.BuildEnd.{BuildEnd}
use Rattle.requirement_list.specs.declared.collected.Collected.{Collected}
use Rattle.requirement_list.specs.declared.collected.Field.{Field}
use Rattle.requirement_list.specs.RequirementLists.{target_count, IsEndOf, group_in, conflict_in}
use Rattle.requirement_list.specs.Fields.{place_in, is_conflict}

-- the tables are those of these dependencies
pub record AreTables (done : List Requirement) (c : Collected) : Type 0 where
  pub dependencies : c.builder.dependencies ≡ map dependency_in done
  pub groups : c.groups.items ≡ map group_in done
  pub conflicts : c.conflicts.items ≡ map conflict_in done

-- they are, as long as there are not too many targets
abbrev pub AreKept : Bool → List Requirement → Collected → Type 0
AreKept false done c = AreTables done c
AreKept true done c = most_targets < target_count done

-- Of all dependencies these are left, and the others were collected.
pub record HasLeft (all left : List Requirement) (c : Collected) : Type 0 where
  pub done : List Requirement
  pub whole : done ++ left ≡ all
  pub count : c.count ≡ length done
  pub within : length done ≤ most_dependencies
  pub kept : AreKept c.past done c

-- Where the first dependencies were left, the second are, whatever follows them; and the packages are the same.
pub record HasCome (first second : List Requirement) (old new : Collected) : Type 0 where
  pub owners : new.builder.owners ≡ old.builder.owners
  pub starts : new.builder.starts ≡ old.builder.starts
  pub left : (all rest : List Requirement) → HasLeft all (first ++ rest) old → HasLeft all (second ++ rest) new

-- Where these dependencies were next, the end is one of the whole list.
pub record HasEnded (rs : List Requirement) (old : Collected) (end : BuildEnd) : Type 0 where
  pub each : (all rest : List Requirement) → HasLeft all (rs ++ rest) old → IsEndOf all end

-- One more dependency was put into the tables, or there are too many targets with it.
pub record IsPut (r : Requirement) (old new : Collected) : Type 0 where
  pub owners : new.builder.owners ≡ old.builder.owners
  pub starts : new.builder.starts ≡ old.builder.starts
  pub count : new.count ≡ old.count
  pub kept : (done : List Requirement) → length done < most_dependencies → AreTables done old → AreKept new.past (done ++ r ∷ []) new

-- The field of a dependency was noted.
pub record IsNoted (field : Field) (old new : Collected) : Type 0 where
  pub builder : new.builder ≡ old.builder
  pub count : new.count ≡ old.count
  pub past : new.past ≡ old.past
  pub groups : new.groups.items ≡ old.groups.items ++ place_in field ∷ []
  pub conflicts : new.conflicts.items ≡ old.conflicts.items ++ is_conflict field ∷ []

-- A call collects these dependencies.
abbrev pub Adds : List Requirement → Collected → Result Unit BuildEnd → Collected → Type 0
Adds rs old result new = MatchResult result (λ _. HasCome rs [] old new) (λ end. HasEnded rs old end)
