use Rattle.std.proofs.Common.{length}
use Rattle.dep_fields.specs.Views.{field_left}
use Rattle.text_cases.proofs.relations.print_field.Given as goal

abbrev pub decreases-loop-group : goal.decreases-loop-group
decreases-loop-group g l = length (field_left l.groups).groups
