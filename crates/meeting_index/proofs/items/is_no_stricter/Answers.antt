-- A bound that is open to one side is no stricter the farther its version is on the other.
use Rattle.std.proofs.Common.{◌∙◌, ap, sym}
use Rattle.std.specs.Ordering.{is_eq, is_ge, is_le}
use Rattle.deb_version.specs.VersionOrder.{version_order}
use Rattle.dep_fields.specs.Operators.{holds}
use Rattle.meeting_index.specs.Fitting.{version_parts}
use Rattle.meeting_index.proofs.CrowdLaws.{parts-read}
use Rattle.meeting_index.proofs.Covering.{earlier-implied, equal-implied, later-implied}
use Rattle.meeting_index.proofs.items.is_no_stricter.Goals as goal

pub returns-in-Earlier : goal.returns-in-Earlier
returns-in-Earlier c = λ yes p h.
    let v = c.args.version.now in
    let w = c.args.other.now in
    ap (λ q. holds c.args.op (version_order p q)) (parts-read v)
    ∙ earlier-implied c.args.op (version_parts v) (version_parts w) (sym c.span_of.ensures ∙ c.in-Earlier.is)
    (ap is_ge (sym c.compare-order.ensures.order) ∙ sym c.is_ge.ensures ∙ yes) p (ap (λ q. holds c.args.op (version_order p q)) (sym (parts-read w)) ∙ h)

pub returns-in-Later : goal.returns-in-Later
returns-in-Later c = λ yes p h.
    let v = c.args.version.now in
    let w = c.args.other.now in
    ap (λ q. holds c.args.op (version_order p q)) (parts-read v)
    ∙ later-implied c.args.op (version_parts v) (version_parts w) (sym c.span_of.ensures ∙ c.in-Later.is)
    (ap is_le (sym c.compare-order.ensures.order) ∙ sym c.is_le.ensures ∙ yes) p (ap (λ q. holds c.args.op (version_order p q)) (sym (parts-read w)) ∙ h)

pub returns-in-All : goal.returns-in-All
returns-in-All c = λ yes p h.
    let v = c.args.version.now in
    let w = c.args.other.now in
    ap (λ q. holds c.args.op (version_order p q)) (parts-read v)
    ∙ equal-implied c.args.op (version_parts v) (version_parts w) (ap is_eq (sym c.compare-order.ensures.order) ∙ sym c.is_eq.ensures ∙ yes) p
    (ap (λ q. holds c.args.op (version_order p q)) (sym (parts-read w)) ∙ h)
