-- The first of those in order, or the last.
use Rattle.std.proofs.Common.{◌≡◌, ◌∙◌, sym, subst, Option, ℕ, false, Some}
use Rattle.std.specs.Option.{MatchOption}
use Rattle.dep_fields.specs.Relationships.{bound_of}
use Rattle.meeting_index.specs.Crowds.{IsEdge, crowd_has}
use Rattle.meeting_index.proofs.Edges.{first-edge, last-edge}
use Rattle.meeting_index.proofs.crowd.Crowd.edge.Goals as goal

pub returns-in-Earlier : goal.returns-in-Earlier
returns-in-Earlier c =
    let bound = bound_of (c.args.op, c.args.version.now) in
    let crowd = c.args.self.now in
    subst (λ (o : Option ℕ). MatchOption o ((n : ℕ) → crowd_has crowd (Some bound) n ≡ false) (IsEdge crowd bound)) (sym c.last_carrier.ensures)
    (last-edge crowd bound c.members-list.result.now c.members-list.ensures.numbers c.members-list.ensures.inside c.members-list.ensures.sorted (sym c.span_of.ensures ∙ c.in-Earlier.is))

pub returns-in_default : goal.returns-in_default
returns-in_default c =
    let bound = bound_of (c.args.op, c.args.version.now) in
    let crowd = c.args.self.now in
    subst (λ (o : Option ℕ). MatchOption o ((n : ℕ) → crowd_has crowd (Some bound) n ≡ false) (IsEdge crowd bound)) (sym c.first_carrier.ensures)
    (first-edge crowd bound c.members-list.result.now c.members-list.ensures.numbers c.members-list.ensures.inside c.members-list.ensures.sorted
    (λ early. c.in_default.not-Earlier (c.span_of.ensures ∙ early)))
