use Rattle.std.proofs.Common.{◌≡◌, ◌||◌, ℕ, true, Some, take}
use Rattle.std.specs.List.{Contains}
use Rattle.dep_fields.specs.Relationships.{VersionBound}
use Rattle.meeting_index.specs.Fitting.{has_fitting, last_fits, reaches}
use Rattle.meeting_index.specs.declared.carried.Carried.{Carried}
use Rattle.meeting_index.proofs.sides.one_of_each.Given as goal

-- those that are kept and the last one serve for those so far, and are some of them
abbrev pub invariant-loop-next : goal.invariant-loop-next
invariant-loop-next l = record {
  serves : (bound : VersionBound) (c : ℕ) → reaches l.side bound.op ≡ true
      → (has_fitting l.kept.items bound c || last_fits bound c l.last) ≡ has_fitting (take l.next-index l.by_number) bound c;
  part : (y : Carried) → Contains l.kept.items y → Contains l.by_number y;
  last : (y : Carried) → l.last ≡ Some y → Contains l.by_number y;
}
