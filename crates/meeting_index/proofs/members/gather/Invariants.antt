use Rattle.std.proofs.Common.{◌≡◌, ℕ, Some, take}
use Rattle.std.specs.List.{list_any}
use Rattle.dep_fields.specs.Relationships.{VersionBound}
use Rattle.meeting_index.specs.Crowds.{finds_as}
use Rattle.meeting_index.specs.Fitting.{has_fitting}
use Rattle.meeting_index.specs.Members.{AreReal}
use Rattle.meeting_index.specs.Provided.{carriers_listed}
use Rattle.meeting_index.proofs.members.gather.Given as goal

-- what the carriers so far find, and that they are real
abbrev pub invariant-loop-number : goal.invariant-loop-number
invariant-loop-number l = record {
  fitting : (bound : VersionBound) (c : ℕ) → has_fitting l.list.items bound c ≡ list_any (finds_as (carriers_listed l.carriers) (Some bound) c) (take l.number-index l.numbers);
  real : AreReal (carriers_listed l.carriers) l.numbers l.list.items;
}
