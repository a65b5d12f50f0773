-- The test of a Provides field, for what is left of it.
use Rattle.std.proofs.Common.{◌≡◌, ℕ, Bool, true, false, ◌&&◌, List, refl}
use Rattle.std.specs.Prelude.{Option, Some, None}
use Rattle.std.specs.List.{list_all}
use Rattle.std.specs.Option.{is_none}
use Rattle.std.proofs.lemmas.Bool.{and_parts}
use Rattle.dep_fields.specs.declared.RelFault.{RelFault}
use Rattle.dep_fields.specs.Fields.{Field, field_of}
use Rattle.dep_fields.specs.Provides.{is_exact, is_relation, is_provides}

abbrev pub is_provided : Field → Bool
is_provided field = is_none field.fault && list_all (λ group. list_all is_exact group) field.groups

no-fault : (fault : Option RelFault) → is_none fault ≡ true → fault ≡ None
no-fault None h = refl
no-fault (Some fault) h = absurd (cc)

-- a value of Provides has no fault
pub provides-sound : (value : List ℕ) → is_provides value ≡ true → (field_of false value).fault ≡ None
provides-sound value h =
    no-fault (field_of false value).fault (and_parts (is_relation false value) (list_all (λ group. list_all is_exact group) (field_of false value).groups) h).0
