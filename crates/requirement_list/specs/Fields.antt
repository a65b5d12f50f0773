-- What a dependency is by the field that it is of.
use Rattle.std.specs.Prelude.{ℕ, Bool, true, false, List}
use Rattle.requirement_list.specs.declared.collected.Field.{Field}
use Rattle.requirement_list.specs.declared.collected.Field.TheVariants.{Needs, Recommends, Conflicts}
use Rattle.universe_model.specs.Dependencies.{Requirement}

abbrev pub is_soft : Field → Bool
is_soft Needs = false
is_soft (Recommends place) = true
is_soft Conflicts = false

-- the place of its group in Recommends, and 0 in another field
abbrev pub place_in : Field → ℕ
place_in Needs = 0
place_in (Recommends place) = place
place_in Conflicts = 0

abbrev pub is_conflict : Field → Bool
is_conflict Needs = false
is_conflict (Recommends place) = false
is_conflict Conflicts = true

abbrev pub requirement_of : Field → ℕ → List ℕ → Requirement
requirement_of field source targets = record {
  dependency = record { source = source; targets = targets; soft = is_soft field };
  group = place_in field;
  conflict = is_conflict field;
}
