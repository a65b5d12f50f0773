-- Those of the range of each operator are those within the bound.
use Rattle.std.proofs.Common.{◌∙◌, ap}
use Rattle.std.specs.List.{filter}
use Rattle.std.specs.Ordering.{is_le}
use Rattle.deb_version.specs.VersionOrder.{version_order}
use Rattle.meeting_index.specs.Fitting.{carried_parts, version_parts}
use Rattle.meeting_index.proofs.CrowdRanges.{less-within, at_most-within, equal-within, at_least-within, more-within}
use Rattle.meeting_index.proofs.ranges.within.Goals as goal

pub returns-in-Less : goal.returns-in-Less
returns-in-Less c = c.in_front.ensures ∙ less-within c.args.op c.args.version.now c.args.list.now c.in-Less.is

pub returns-in-AtMost : goal.returns-in-AtMost
returns-in-AtMost c = c.up_to.ensures ∙ at_most-within c.args.op c.args.version.now c.args.list.now c.in-AtMost.is

pub returns-in-Equal : goal.returns-in-Equal
returns-in-Equal c =
    c.up_to-in-Equal.ensures
    ∙ ap (filter (λ y. is_le (version_order (carried_parts y) (version_parts c.args.version.now)))) c.from.ensures.those
    ∙ equal-within c.args.op c.args.version.now c.args.list.now c.in-Equal.is

pub returns-in-AtLeast : goal.returns-in-AtLeast
returns-in-AtLeast c = c.from-in-AtLeast.ensures.those ∙ at_least-within c.args.op c.args.version.now c.args.list.now c.in-AtLeast.is

pub returns-in-More : goal.returns-in-More
returns-in-More c = c.behind.ensures ∙ more-within c.args.op c.args.version.now c.args.list.now c.in-More.is
