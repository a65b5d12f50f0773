use Rattle.std.proofs.Common.{◌≡◌, true}
use Rattle.std.specs.List.{list_all, slice_range}
use Rattle.resolver_model.specs.Problems.{version_count}
use Rattle.requirement_list.specs.Left.{is_sound, of_left}
use Rattle.requirement_list.specs.Collecting.{HasCome}
use Rattle.requirement_list.proofs.conflicts.put_row.Given as goal

abbrev pub invariant-loop-place : goal.invariant-loop-place
invariant-loop-place l = record {
  come : HasCome (of_left l.source l.own (slice_range l.table l.first l.end)) (of_left l.source l.own (slice_range l.table l.place l.end)) l.initial.collected l.collected;
  sound : list_all (is_sound (version_count l.initial.collected.builder)) (slice_range l.table l.place l.end) ≡ true;
}
