-- They stand behind the others.
use Rattle.std.proofs.Common.{◌∙◌, sym, subst, List}
use Rattle.std.proofs.lemmas.List.{take_rest}
use Rattle.std.specs.List.Sorted.{IsSorted}
use Rattle.std.specs.Ordering.{is_lt}
use Rattle.deb_version.specs.VersionOrder.{version_order}
use Rattle.meeting_index.specs.Fitting.{carried_order, carried_parts, version_parts}
use Rattle.meeting_index.specs.declared.carried.Carried.{Carried}
use Rattle.meeting_index.proofs.CrowdRanges.{rest}
use Rattle.meeting_index.proofs.NamedRuns.{sorted-drop}
use Rattle.meeting_index.proofs.ranges.from.Goals as goal

pub returns-clause-those : goal.returns-clause-those
returns-clause-those c =
    let list = c.args.list.now in
    let place = c.earlier.result in
    take_rest list place ∙ rest (λ y. is_lt (version_order (carried_parts y) (version_parts c.args.version.now))) place list c.earlier.ensures.bound c.earlier.ensures.point

pub returns-clause-sorted : goal.returns-clause-sorted
returns-clause-sorted c =
    let list = c.args.list.now in
    subst (λ (ys : List Carried). IsSorted carried_order ys) (sym (take_rest list c.earlier.result)) (sorted-drop carried_order c.earlier.result list c.requires)
