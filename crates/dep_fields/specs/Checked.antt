-- What the fields of the program that have no fault say: the value as it is written, and its groups.
use Rattle.std.specs.Prelude.{ℕ, true, false, List}
use Rattle.dep_fields.specs.declared.checked.AlternativesField.{AlternativesField}
use Rattle.dep_fields.specs.declared.checked.SingleField.{SingleField}
use Rattle.dep_fields.specs.declared.checked.ProvidesField.{ProvidesField}
use Rattle.dep_fields.specs.Relationships.{Relationship}
use Rattle.dep_fields.specs.Fields.{field_of}

abbrev pub alternatives_text : AlternativesField → List ℕ
alternatives_text field = field.value.now

abbrev pub alternatives_groups : AlternativesField → List (List Relationship)
alternatives_groups field = (field_of true field.value.now).groups

abbrev pub single_text : SingleField → List ℕ
single_text field = field.value.now

abbrev pub single_groups : SingleField → List (List Relationship)
single_groups field = (field_of false field.value.now).groups

abbrev pub provides_text : ProvidesField → List ℕ
provides_text field = field.value.now

abbrev pub provides_groups : ProvidesField → List (List Relationship)
provides_groups field = (field_of false field.value.now).groups
