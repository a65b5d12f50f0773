-- They stand behind the others.
use Rattle.std.proofs.Common.{◌∙◌}
use Rattle.std.proofs.lemmas.List.{take_rest}
use Rattle.std.specs.Ordering.{is_le}
use Rattle.deb_version.specs.VersionOrder.{version_order}
use Rattle.meeting_index.specs.Fitting.{carried_parts, version_parts}
use Rattle.meeting_index.proofs.CrowdRanges.{rest}
use Rattle.meeting_index.proofs.ranges.behind.Goals as goal

pub returns : goal.returns
returns c =
    let list = c.args.list.now in
    let place = c.not_later.result in
    take_rest list place ∙ rest (λ y. is_le (version_order (carried_parts y) (version_parts c.args.version.now))) place list c.not_later.ensures.bound c.not_later.ensures.point
