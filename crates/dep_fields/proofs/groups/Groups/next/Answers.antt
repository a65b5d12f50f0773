use Rattle.std.proofs.Common.{sym}
use Rattle.dep_fields.specs.Fields.{bar, pieces}
use Rattle.dep_fields.proofs.Parts.{no-fault-reads, answered-push}
use Rattle.dep_fields.proofs.groups.Groups.next.Goals as goal

pub invariant_of-result : goal.invariant_of-result
invariant_of-result c =
    let span = c.in-Some-next_span.span in
    record { whole = no-fault-reads c.args.self.now.alternatives span.at (pieces bar span.text.now) (sym c.in-Ok.ensures.fault) }

pub returns-in-Ok-clause-answered : goal.returns-in-Ok-clause-answered
returns-in-Ok-clause-answered c =
    λ value groups h. answered-push value groups _ _ _ h c.in-Some-next_span.ensures.stands
