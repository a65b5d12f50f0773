use Rattle.std.proofs.Common.{◌≡◌, false, length}
use Rattle.dep_fields.specs.Fields.{field_of}
use Rattle.dep_fields.specs.Views.{field_left}
use Rattle.dep_fields.proofs.Provided.{is_provided}
use Rattle.dep_fields.proofs.checks.is_provides.Given as goal

-- what is left is to pass as the whole field is
abbrev pub invariant-loop-group : goal.invariant-loop-group
invariant-loop-group l = is_provided (field_left l.groups) ≡ is_provided (field_of false l.value)

abbrev pub decreases-loop-group : goal.decreases-loop-group
decreases-loop-group l = length (field_left l.groups).groups
