-- They stand in front.
use Rattle.std.specs.Ordering.{is_le}
use Rattle.deb_version.specs.VersionOrder.{version_order}
use Rattle.meeting_index.specs.Fitting.{carried_parts, version_parts}
use Rattle.meeting_index.proofs.CrowdRanges.{front}
use Rattle.meeting_index.proofs.ranges.up_to.Goals as goal

pub returns : goal.returns
returns c = front (λ y. is_le (version_order (carried_parts y) (version_parts c.args.version.now))) c.not_later.result c.args.list.now c.not_later.ensures.point
