-- Where the sixteenth name behind the first is another one, the first begins no crowd.
use Rattle.std.proofs.Common.{◌≡◌, ◌∙◌, ap, sym, true, false, get_or}
use Rattle.std.specs.Ordering.{is_eq, is_ne}
use Rattle.ascii.specs.Texts.{is_same}
use Rattle.meeting_index.specs.Named.{named_order}
use Rattle.meeting_index.specs.declared.named.Named.{Named}
use Rattle.meeting_index.proofs.Crowding.{not-ne}
use Rattle.meeting_index.proofs.NamedRuns.{order-same}
use Rattle.meeting_index.proofs.crowds.crowd_run.Goals as goal

pub returns-then-is_ne-clause-there : goal.returns-then-is_ne-clause-there
returns-then-is_ne-clause-there c = λ d begins.
    let name = c.in-Some-Some.name.now in
    let far = c.in-Some-Some.far.now in
    let equal : is_eq (named_order name far) ≡ true =
    order-same name far
    ∙ ap (λ (x : Named). is_same x.bytes.now far.bytes.now) (c.in-Some-Some.ensures.item.3.1 d)
    ∙ ap (λ (x : Named). is_same (get_or c.args.names.now 0 d).bytes.now x.bytes.now) (c.in-Some-Some.ensures'.lookup.3.1 d)
    ∙ begins.same d in
    absurd (
    let both : true ≡ false = sym c.if-is_ne.true ∙ c.is_ne.ensures ∙ ap is_ne c.order.ensures ∙ not-ne (named_order name far) equal in
    cc)
