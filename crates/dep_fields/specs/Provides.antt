-- The value of Provides (Debian Policy 7.5): single items, and no operator but '='.
use Rattle.std.specs.Prelude.{ℕ, Bool, true, false, ◌&&◌, List, Option, Some, None, is_none}
use Rattle.std.specs.List.{list_all}
use Rattle.dep_fields.specs.declared.Op.{Op}
use Rattle.dep_fields.specs.declared.Op.TheVariants.{Less, AtMost, Equal, AtLeast, More}
use Rattle.dep_fields.specs.Relationships.{Relationship, VersionBound}
use Rattle.dep_fields.specs.Fields.{field_of}

-- a value is a relationship field without fault, where a group may have alternatives or may not
abbrev pub is_relation : Bool → List ℕ → Bool
is_relation alternatives value = is_none (field_of alternatives value).fault

abbrev pub is_equal : Op → Bool
is_equal Less = false
is_equal AtMost = false
is_equal Equal = true
is_equal AtLeast = false
is_equal More = false

abbrev pub is_exact_bound : Option VersionBound → Bool
is_exact_bound None = true
is_exact_bound (Some bound) = is_equal bound.op

-- an item without a version bound, or with the operator '='
abbrev pub is_exact : Relationship → Bool
is_exact item = is_exact_bound item.rel

-- Provides has no other items, each alone in its group
abbrev pub is_provides : List ℕ → Bool
is_provides value = is_relation false value && list_all (λ group. list_all is_exact group) (field_of false value).groups
