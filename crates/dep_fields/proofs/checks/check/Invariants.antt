use Rattle.std.proofs.Common.{◌≡◌, length}
use Rattle.dep_fields.specs.Fields.{field_of}
use Rattle.dep_fields.specs.Views.{field_left}
use Rattle.dep_fields.proofs.checks.check.Given as goal

abbrev pub invariant-loop-fault : goal.invariant-loop-fault
invariant-loop-fault l = (field_left l.groups).fault ≡ (field_of l.alternatives l.value).fault

abbrev pub decreases-loop-fault : goal.decreases-loop-fault
decreases-loop-fault l = length (field_left l.groups).groups
