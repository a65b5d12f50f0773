-- They stand in front.
use Rattle.std.specs.Ordering.{is_lt}
use Rattle.deb_version.specs.VersionOrder.{version_order}
use Rattle.meeting_index.specs.Fitting.{carried_parts, version_parts}
use Rattle.meeting_index.proofs.CrowdRanges.{front}
use Rattle.meeting_index.proofs.ranges.in_front.Goals as goal

pub returns : goal.returns
returns c = front (λ y. is_lt (version_order (carried_parts y) (version_parts c.args.version.now))) c.earlier.result c.args.list.now c.earlier.ensures.point
