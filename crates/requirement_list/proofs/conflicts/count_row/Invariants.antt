use Rattle.std.proofs.Common.{◌≡◌, ℕ, true, map}
use Rattle.std.specs.List.{slice_range}
use Rattle.universe_model.specs.Dependencies.{Requirement}
use Rattle.requirement_list.specs.Left.{others}
use Rattle.requirement_list.specs.Collecting.{HasCome}
use Rattle.requirement_list.proofs.conflicts.count_row.Given as goal

abbrev pub invariant-loop-place : goal.invariant-loop-place
invariant-loop-place l = record {
  come : (f : ℕ → Requirement) → HasCome (map f (others l.own (slice_range l.table l.first l.end))) (map f (others l.own (slice_range l.table l.place l.end))) l.initial.collected l.collected;
  past : l.collected.past ≡ true;
}
